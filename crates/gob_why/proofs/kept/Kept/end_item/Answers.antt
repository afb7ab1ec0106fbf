-- The next item begins behind this one.
use Rattle.std.proofs.Common.{◌≡◌, ◌++◌, ◌∙◌, arith, length, length-append}
use Rattle.gob_types.specs.Defined.{types}
use Rattle.gob_why.proofs.KeepingLaws.{lost_end}
use Rattle.gob_why.proofs.kept.Kept.end_item.Goals as goal

pub returns-clause-put : goal.returns-clause-put
returns-clause-put g c =
    let k = c.args.self.now in
    let p = c.in_ok-explain_end.ensures.put in record {
      text = p.text;
      put = p.put;
      holds = λ few.
          let of = c.len.ensures ∙ k.item.ok.0 in
          let both = length-append k.item.items c.args.bytes.now in
          let size : c.saturating_add-size.result ≡ length (k.item.items ++ c.args.bytes.now) =
          omega (arith, few, c.saturating_add-size.ensures, of, both) in (
            c.clear.ensures.items,
            omega (arith, c.saturating_add-self.ensures, c.in_ok-explain_end.ensures.begin, size),
            p.holds size,
          );
    }

pub returns-in_err-explain_end-clause-put : goal.returns-in_err-explain_end-clause-put
returns-in_err-explain_end-clause-put g c =
    let k = c.args.self.now in
    let p = c.in_err-explain_end.ensures.put in record {
      text = p.text;
      put = p.put;
      holds = lost_end k.explained (types c.args.table.now) k.item.items k.begin c.args.bytes.now _ _ p.text _
          c.from_residual.result c.from_residual.ensures.1 p.holds;
    }
