-- How a run ends that sends one text.
use Rattle.std.proofs.Common.{ℕ, List, [], ◌++◌, Option, Result, Ok, Err, ◌∙◌, ap, sym, subst, append_assoc}
use Rattle.std.specs.Io.KnownBytes.{Appends, Keeps}
use Rattle.std.proofs.KnownBytes.{Appends-kept, Appends-trans}
use Rattle.gob_stream.specs.Calls.Writing.{SentPrefix}
use Rattle.gob_tool.specs.declared.fault.ToolFault.{ToolFault}
use Rattle.gob_tool.specs.declared.fault.ToolFault.TheVariants as fault
use Rattle.gob_tool.specs.Ending.{EndsRun, ends_so, flush_fails}
use Rattle.gob_tool.specs.Showing.{AppendsPrefix}
use Rattle.gob_tool.proofs.EndLaws.{all_kept, prefix_kept}
use Rattle.gob_views.specs.Sending.{SendsText}

-- the rest of the text behind what was sent of its front
pub prefix_on : (old new : Option (List ℕ)) (front rest : List ℕ) → SentPrefix front old new
    → AppendsPrefix old new (front ++ rest)
prefix_on old new front rest s = record {
  prefix = s.prefix;
  rest = s.rest ++ rest;
  whole = ap (λ (l : List ℕ). l ++ rest) s.whole ∙ append_assoc s.prefix s.rest rest;
  out = s.out;
}

-- a front behind which a prefix of the rest was sent
pub prefix_behind : (old mid new : Option (List ℕ)) (front rest : List ℕ) → Appends old mid front
    → SentPrefix rest mid new → AppendsPrefix old new (front ++ rest)
prefix_behind old mid new front rest a s = record {
  prefix = front ++ s.prefix;
  rest = s.rest;
  whole = ap (λ (l : List ℕ). front ++ l) s.whole ∙ sym (append_assoc front s.prefix s.rest);
  out = Appends-trans old mid new front s.prefix a s.out;
}

-- behind the flush
sends_kept : (old mid new : Option (List ℕ)) (text : List ℕ) (res : Result (Unit {0}) ToolFault) → Keeps mid new
    → SendsText old mid text res → SendsText old new text res
sends_kept old mid new text (Ok u) k h = Appends-kept old mid new text h k
sends_kept old mid new text (Err fault.Write) k h = prefix_kept old mid new text h k
sends_kept old mid new text (Err fault.Memory) k h = Appends-kept old mid new [] h k
sends_kept old mid new text (Err (fault.Refused R)) k h = absurd h
sends_kept old mid new text (Err (fault.Wanted R)) k h = absurd h
sends_kept old mid new text (Err fault.NoWantedType) k h = absurd h
sends_kept old mid new text (Err (fault.Clash path reason)) k h = absurd h
sends_kept old mid new text (Err (fault.LeftOut path number)) k h = absurd h
sends_kept old mid new text (Err fault.Read) k h = absurd h

pub sends_ended : (old mid new : Option (List ℕ)) (text : List ℕ) (answer result : Result (Unit {0}) ToolFault)
    → Keeps mid new → EndsRun answer result → SendsText old mid text answer → SendsText old new text result
sends_ended old mid new text answer result k (ends_so e) h =
    subst (λ r. SendsText old new text r) (sym e) (sends_kept old mid new text answer k h)
sends_ended old mid new text answer result k (flush_fails o e) h =
    subst (λ r. SendsText old new text r) (sym e)
    (all_kept old mid new text (subst (λ r. SendsText old mid text r) o h) k)
