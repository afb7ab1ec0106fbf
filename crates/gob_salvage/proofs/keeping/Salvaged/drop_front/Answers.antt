use Rattle.std.proofs.Common.{arith, length, refl}
use Rattle.std.proofs.lemmas.Bool.Decides.{Decides-eqb}
use Rattle.std.proofs.lemmas.Slice.Eq.{starts_is}
use Rattle.gob_salvage.specs.Behind.{all_of_it, behind_it}
use Rattle.gob_salvage.proofs.BehindLaws.{gaps_told, in_front, not_in_front}
use Rattle.gob_salvage.proofs.keeping.Salvaged.drop_front.Goals as goal

pub returns-then-not-starts_with : goal.returns-then-not-starts_with
returns-then-not-starts_with c =
    let begun = starts_is Decides-eqb c.deref.result.now c.deref-2.result.now c.starts_with.result
    c.starts_with.ensures.value in
    record {
      counts = all_of_it (not_in_front c.deref.result.now c.deref-2.result.now c.args.self.now.bytes.items
          c.args.front.now.bytes.items c.starts_with.result begun.1 c.deref.ensures.value c.deref-2.ensures.value
          c.if-not-starts_with.true) refl refl;
      gaps = gaps_told c.args.self.now.gaps c.move_behind.new.gaps c.deref_mut.result.now c.len-count.result
          (length c.args.front.now.bytes.items) (omega (arith, c.args.self.now.gaps.ok.0)) c.move_behind.ensures
          c.deref_mut.ensures.value (omega (arith, c.len-count.ensures, c.args.front.now.bytes.ok));
    }

pub returns : goal.returns
returns c =
    let begun = starts_is Decides-eqb c.deref.result.now c.deref-2.result.now c.starts_with.result
    c.starts_with.ensures.value in
    record {
      counts = behind_it (in_front c.deref.result.now c.deref-2.result.now c.args.self.now.bytes.items
          c.args.front.now.bytes.items c.drop_first.new.bytes.items c.starts_with.result c.len-count.result begun.0
          c.deref.ensures.value c.deref-2.ensures.value c.if-not-starts_with.false
          (omega (arith, c.len-count.ensures, c.args.front.now.bytes.ok)) c.drop_first.ensures)
          c.saturating_sub-self.ensures;
      gaps = gaps_told c.args.self.now.gaps c.move_behind.new.gaps c.deref_mut.result.now c.len-count.result
          (length c.args.front.now.bytes.items) (omega (arith, c.args.self.now.gaps.ok.0)) c.move_behind.ensures
          c.deref_mut.ensures.value (omega (arith, c.len-count.ensures, c.args.front.now.bytes.ok));
    }
