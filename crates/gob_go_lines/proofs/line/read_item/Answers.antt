use Rattle.std.proofs.Common.{◌≡◌, [], ◌∷◌, ◌++◌, ◌∙◌, ℕ, List, ap, arith, codes, rules, subst, sym}
use Rattle.json.specs.Token.{Token}
use Rattle.gob_types.specs.declared.id.TypeId.{TypeId}
use Rattle.gob_types.specs.Defined.{types}
use Rattle.gob_types.specs.Ready.{IsReady}
use Rattle.gob_lines.proofs.PutLaws.{numbered}
use Rattle.gob_lines.proofs.ShapeLaws.{define_front, define_told}
use Rattle.gob_lines.proofs.UniqueLaws.{behind}
use Rattle.gob_go_lines.specs.Says.{SaysTop}
use Rattle.gob_go_lines.specs.Lines.{PutsSaid}
use Rattle.gob_go_lines.proofs.LineLaws.{fault_definition, fault_line, put_front, put_told}
use Rattle.gob_go_lines.proofs.line.read_item.Goals as goal

pub returns-in_ok-take_object_end-in-Some-Key-type-clause-tells :
    goal.returns-in_ok-take_object_end-in-Some-Key-type-clause-tells
returns-in_ok-take_object_end-in-Some-Key-type-clause-tells c =
    let object = rw c.in-Some-BeginObject.field-0-is at c.in-Some-BeginObject.ensures.value in
    let key = rw c.in-Some-Key-type.field-0-is at c.in-Some-Key-type.ensures.value in
    let named = rw c.in-Some-Key-type.is-type at key in
    let n = c.in_ok-read_uint-in-Some-Key-type.field-0 in
    let none : c.new-body.result.items ≡ [] = search rules in
    let body = c.put_top.new.out.items in
    let put = subst (λ (b : List ℕ). PutsSaid (SaysTop (types c.args.table.now) c.args.form.holds
    (numbered n) c.args.form.depth) c.take_key.new.tokens c.put_top.new.tokens b body) none
    c.in_ok-put_top-in-Some-Key-type.ensures.says in (
      c.kept.ensures.0 (search rules),
      put_told n _ _ _ _ _ _ _ object named c.in_ok-read_uint-in-Some-Key-type.ensures.ok
          c.in_ok-take_key-in-Some-Key-type.ensures.ok put c.in_ok-take_object_end-in-Some-Key-type.ensures.ok,
    )

pub returns-then-not-kept-clause-whole : goal.returns-then-not-kept-clause-whole
returns-then-not-kept-clause-whole c = λ id b says.
    let object = rw c.in-Some-BeginObject.field-0-is at c.in-Some-BeginObject.ensures.value in
    let key = rw c.in-Some-Key-type.field-0-is at c.in-Some-Key-type.ensures.value in
    let named = rw c.in-Some-Key-type.is-type at key in
    let n = c.in_ok-read_uint-in-Some-Key-type.field-0 in
    let stands = put_front n says object named c.in_ok-read_uint-in-Some-Key-type.ensures.fits
    c.in_ok-read_uint-in-Some-Key-type.ensures.ok in
    let ready = subst (λ (t : TypeId). IsReady (types c.args.table.now) t) (sym stands.same) says.ready in
    let kept = c.kept.ensures.1 ready in
    let lost = c.if-not-kept.true in
    grind (arith, kept, lost)

pub returns-in_err-put_top-in-Some-Key-type-clause-whole : goal.returns-in_err-put_top-in-Some-Key-type-clause-whole
returns-in_err-put_top-in-Some-Key-type-clause-whole c = λ id b says.
    let object = rw c.in-Some-BeginObject.field-0-is at c.in-Some-BeginObject.ensures.value in
    let key = rw c.in-Some-Key-type.field-0-is at c.in-Some-Key-type.ensures.value in
    let named = rw c.in-Some-Key-type.is-type at key in
    let n = c.in_ok-read_uint-in-Some-Key-type.field-0 in
    let stands = put_front n says object named c.in_ok-read_uint-in-Some-Key-type.ensures.fits
    c.in_ok-read_uint-in-Some-Key-type.ensures.ok in
    let there = ap behind (sym c.in_ok-take_key-in-Some-Key-type.ensures.ok ∙ stands.stand) in
    fault_line c.from_residual-in_err-put_top-in-Some-Key-type.result c.in_err-put_top-in-Some-Key-type.field-0.0 id b
    c.put_top.new.tokens c.from_residual-in_err-put_top-in-Some-Key-type.ensures.1
    (c.in_err-put_top-in-Some-Key-type.ensures.whole stands.json b (Token.end_object ∷ []) stands.says there)

pub returns-in_err-take_object_end-in-Some-Key-type-clause-whole :
    goal.returns-in_err-take_object_end-in-Some-Key-type-clause-whole
returns-in_err-take_object_end-in-Some-Key-type-clause-whole c = λ id b says.
    let object = rw c.in-Some-BeginObject.field-0-is at c.in-Some-BeginObject.ensures.value in
    let key = rw c.in-Some-Key-type.field-0-is at c.in-Some-Key-type.ensures.value in
    let named = rw c.in-Some-Key-type.is-type at key in
    let n = c.in_ok-read_uint-in-Some-Key-type.field-0 in
    let stands = put_front n says object named c.in_ok-read_uint-in-Some-Key-type.ensures.fits
    c.in_ok-read_uint-in-Some-Key-type.ensures.ok in
    let there = ap behind (sym c.in_ok-take_key-in-Some-Key-type.ensures.ok ∙ stands.stand) in
    let value = c.in_ok-put_top-in-Some-Key-type.ensures.whole stands.json b (Token.end_object ∷ []) stands.says there
    in
    fault_line c.from_residual-in_err-take_object_end-in-Some-Key-type.result
    c.in_err-take_object_end-in-Some-Key-type.field-0.0 id b c.take_object_end.new.tokens
    c.from_residual-in_err-take_object_end-in-Some-Key-type.ensures.1
    (λ w. c.in_err-take_object_end-in-Some-Key-type.ensures.none w [] value.0)

pub returns-in_ok-take_object_end-in-Some-Key-type-clause-whole :
    goal.returns-in_ok-take_object_end-in-Some-Key-type-clause-whole
returns-in_ok-take_object_end-in-Some-Key-type-clause-whole c = λ id b says.
    let object = rw c.in-Some-BeginObject.field-0-is at c.in-Some-BeginObject.ensures.value in
    let key = rw c.in-Some-Key-type.field-0-is at c.in-Some-Key-type.ensures.value in
    let named = rw c.in-Some-Key-type.is-type at key in
    let n = c.in_ok-read_uint-in-Some-Key-type.field-0 in
    let none : c.new-body.result.items ≡ [] = search rules in
    let stands = put_front n says object named c.in_ok-read_uint-in-Some-Key-type.ensures.fits
    c.in_ok-read_uint-in-Some-Key-type.ensures.ok in
    let there = ap behind (sym c.in_ok-take_key-in-Some-Key-type.ensures.ok ∙ stands.stand) in
    let value = c.in_ok-put_top-in-Some-Key-type.ensures.whole stands.json b (Token.end_object ∷ []) stands.says there
    in (
      (stands.same, value.1 ∙ ap (λ (a : List ℕ). a ++ b) none),
      ap behind (sym c.in_ok-take_object_end-in-Some-Key-type.ensures.ok ∙ value.0),
    )

pub returns-in_ok-shape-in-Some-Key-define-clause-tells : goal.returns-in_ok-shape-in-Some-Key-define-clause-tells
returns-in_ok-shape-in-Some-Key-define-clause-tells c =
    let object = rw c.in-Some-BeginObject.field-0-is at c.in-Some-BeginObject.ensures.value in
    let key = rw c.in-Some-Key-define.field-0-is at c.in-Some-Key-define.ensures.value in
    let named = rw c.in-Some-Key-define.is-define at key in (
      c.in_ok-shape-in-Some-Key-define.ensures.definable,
      define_told object named c.in_ok-read_uint-in-Some-Key-define.ensures.ok
          c.in_ok-shape-in-Some-Key-define.ensures.read,
    )

pub returns-then-not-kept-clause-tells : goal.returns-then-not-kept-clause-tells
returns-then-not-kept-clause-tells c =
    let object = rw c.in-Some-BeginObject.field-0-is at c.in-Some-BeginObject.ensures.value in
    let key = rw c.in-Some-Key-type.field-0-is at c.in-Some-Key-type.ensures.value in
    let named = rw c.in-Some-Key-type.is-type at key in
    let got = c.in_ok-read_uint-in-Some-Key-type.ensures.ok in
    record {
      unready = λ ready. let kept = c.kept.ensures.1 ready in
          let lost = c.if-not-kept.true in
          grind (arith, kept, lost);
      number = got.json;
      named = got.is;
      rest = c.read_uint-in-Some-Key-type.new.tokens;
      front = object ∙ ap (λ (l : List Token). Token.begin_object ∷ l)
          (named ∙ ap (λ (l : List Token). Token.key (codes "type") ∷ l) got.reads);
    }

pub returns-in_ok-shape-in-Some-Key-define-clause-definition :
    goal.returns-in_ok-shape-in-Some-Key-define-clause-definition
returns-in_ok-shape-in-Some-Key-define-clause-definition c = λ id s says.
    let object = rw c.in-Some-BeginObject.field-0-is at c.in-Some-BeginObject.ensures.value in
    let key = rw c.in-Some-Key-define.field-0-is at c.in-Some-Key-define.ensures.value in
    let named = rw c.in-Some-Key-define.is-define at key in
    let stands = define_front c.in_ok-read_uint-in-Some-Key-define.field-0 says object named
    c.in_ok-read_uint-in-Some-Key-define.ensures.fits c.in_ok-read_uint-in-Some-Key-define.ensures.ok in
    let shape = c.in_ok-shape-in-Some-Key-define.ensures.whole s [] says.definable says.readable says.name
    stands.stand in
    ((stands.same, shape.0), shape.1)

pub returns-in_err-shape-in-Some-Key-define-clause-definition :
    goal.returns-in_err-shape-in-Some-Key-define-clause-definition
returns-in_err-shape-in-Some-Key-define-clause-definition c = λ id s says.
    let object = rw c.in-Some-BeginObject.field-0-is at c.in-Some-BeginObject.ensures.value in
    let key = rw c.in-Some-Key-define.field-0-is at c.in-Some-Key-define.ensures.value in
    let named = rw c.in-Some-Key-define.is-define at key in
    let stands = define_front c.in_ok-read_uint-in-Some-Key-define.field-0 says object named
    c.in_ok-read_uint-in-Some-Key-define.ensures.fits c.in_ok-read_uint-in-Some-Key-define.ensures.ok in
    fault_definition c.from_residual-in_err-shape-in-Some-Key-define.result
    c.in_err-shape-in-Some-Key-define.field-0.0 id s c.read_shape.new.tokens
    c.from_residual-in_err-shape-in-Some-Key-define.ensures.1
    (c.in_err-shape-in-Some-Key-define.ensures.whole s [] says.definable says.readable says.name stands.stand)
