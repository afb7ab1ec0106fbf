-- What is appended, and what the rest would append, is all, and the names are those of the fields before.
use Rattle.std.proofs.Common.{◌≡◌, ◌++◌, [], drop, take}
use Rattle.gob_source.specs.Machine.{KnowsNames}
use Rattle.gob_source.specs.Source.{comments_text}
use Rattle.gob_source.proofs.fields.push_comments.Given as goal

abbrev pub invariant-loop-field : goal.invariant-loop-field
invariant-loop-field g l = record {
  text : l.out.items ++ comments_text (g.S.Shapes.table l.types.shapes.now) l.types.ids.now l.of
      (take l.field-index l.fields) (drop l.field-index l.fields)
      ≡ l.fn.out.items ++ comments_text (g.S.Shapes.table l.types.shapes.now) l.types.ids.now l.of [] l.fields;
  known : KnowsNames l.seen (take l.field-index l.fields);
}
