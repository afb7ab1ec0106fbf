use Rattle.std.proofs.Common.{subst, ℕ}
use Rattle.gob_types.specs.Defined.{Defined, types}
use Rattle.gob_go.specs.Calls.Reader.{session_of}
use Rattle.gob_go.specs.Calls.Session.{types_of}
use Rattle.gob_tool.specs.Machine.FormsGo.{IsFormOf}
use Rattle.gob_tool.proofs.go.whole_form.whole_form.Goals as goal

pub returns : goal.returns
returns c =
    let item = c.in-Some.item in
    let form = c.in-Some-2.form in
    let f = rw c.in-Some-2.is at c.in_ok-form.ensures in
    let known = subst (λ (d : Defined). IsFormOf (types d) item.id c.whole_depth-depth.result item.body.now form)
    c.table.ensures f in
    record {
      id = item.id;
      body = item.body.now;
      between = c.in-Some.ensures.between;
      next = c.in-Some.ensures.body;
      is = subst (λ (n : ℕ). IsFormOf (types_of (session_of c.args.reader.now)) item.id n item.body.now form)
          c.whole_depth-depth.ensures known;
    }
