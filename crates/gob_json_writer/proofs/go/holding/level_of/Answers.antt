use Rattle.std.proofs.Common.{◌∙◌, refl, sym, subst}
use Rattle.gob_types.specs.Defined.{types}
use Rattle.gob_value.specs.Tree.{Tree}
use Rattle.gob_value.specs.Top.{SpellsTop}
use Rattle.gob_tape.specs.Meaning.{Means}
use Rattle.gob_json_writer.specs.Machine.Holding.{GapsShow}
use Rattle.gob_json_writer.proofs.GapsLaws.{gaps_show}
use Rattle.gob_json_writer.proofs.LevelLaws.{level_at}
use Rattle.gob_json_writer.proofs.go.holding.level_of.Goals as goal

pub returns : goal.returns
returns c =
    let T = types c.args.table.now in record {
      level = record {
        each = λ w v N f s.
            let read = level_at c.deref-2.ensures.value c.deref-3.ensures.value
            (subst (λ b. (v : Tree) → SpellsTop T c.args.id v b → Means c.in_ok-tape.tape v)
            (c.deref.ensures.value ∙ sym c.deref-2.ensures.value) c.in_ok-tape.ensures)
            (λ fs M a shows. gaps_show c.in_ok-gaps.ensures a shows) f s in (
              read.0,
              record {
                table = refl;
                due = c.new-due.ensures T N
                    (subst (λ l. GapsShow T 0 l c.in_ok-gaps.gaps.items N) (sym c.deref-4.ensures.value) read.1);
              },
            );
      };
      levels = refl;
    }

pub tape_of-requires : goal.tape_of-requires
tape_of-requires c = c.if-not-kept.ensures.0 refl

pub gaps_of-requires : goal.gaps_of-requires
gaps_of-requires c = c.if-not-kept.ensures.0 refl
