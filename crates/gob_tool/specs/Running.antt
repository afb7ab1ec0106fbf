-- What the run of a command answers. (docs/FORMAT.md, The program: this project's own.)
use Rattle.std.specs.Prelude.{ℕ, List, Option, Result}
use Rattle.gob_stream.specs.Bounds.{Bounds}
use Rattle.gob_tool.specs.declared.fault.ToolFault.{ToolFault}
use Rattle.gob_words.specs.declared.words.Chosen.{Chosen}
use Rattle.gob_words.specs.declared.words.Chosen.TheVariants as chosen
use Rattle.gob_words.specs.declared.words.Order.{Order}
use Rattle.gob_tool.specs.Checking.{CheckAnswers}
use Rattle.gob_tool.specs.Rewriting.{RewriteAnswers}
use Rattle.gob_tool.specs.Showing.{ShowAnswers}
use Rattle.gob_tool.specs.Converting.{ConvertAnswers}
use Rattle.gob_tool.specs.Taking.{TakeAnswers}

-- the limits under which the streams are read
abbrev pub order_limits : Order → Bounds
order_limits order = record { item = order.item; depth = order.depth; types = 10000; stream = 68719476736 }

-- how it ends, over a wanted stream and an input with these bytes left, and an output with the old bytes
abbrev pub OrderAnswers : Chosen → Bounds → (wanted bytes : List ℕ) → (wanted_now now old new : Option (List ℕ))
    → Result (Unit {0}) ToolFault → Type 0
OrderAnswers chosen.Show L wanted bytes wanted_now now old new result = ShowAnswers L bytes now old new result
OrderAnswers chosen.Check L wanted bytes wanted_now now old new result = CheckAnswers L bytes now old new result
OrderAnswers chosen.Rewrite L wanted bytes wanted_now now old new result = RewriteAnswers L bytes now old new result
OrderAnswers chosen.Take L wanted bytes wanted_now now old new result = TakeAnswers L wanted bytes wanted_now now old
    new result
OrderAnswers chosen.Convert L wanted bytes wanted_now now old new result = ConvertAnswers L wanted bytes wanted_now now
    old new result
