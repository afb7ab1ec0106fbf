-- How a run ends that says why a stream is refused.
use Rattle.std.proofs.Common.{◌≡◌, ◌∙◌, ℕ, List, [], ◌++◌, Option, Some, None, Result, Ok, Err, ap, sym, subst}
use Rattle.std.proofs.Common.{refl}
use Rattle.std.specs.Result.{IfOk}
use Rattle.std.specs.Io.KnownBytes.{Appends, Keeps}
use Rattle.std.proofs.KnownBytes.{Appends-kept, Appends-nil}
use Rattle.gob_num.specs.declared.memory.Memory.{Memory}
use Rattle.gob_stream.specs.Bounds.{Bounds, within_trees}
use Rattle.gob_stream.specs.Calls.Writing.{SentPrefix}
use Rattle.gob_stream.specs.declared.fault.Refusal.{Refusal}
use Rattle.gob_tool.specs.declared.fault.ToolFault.{ToolFault}
use Rattle.gob_tool.specs.declared.fault.ToolFault.TheVariants as fault
use Rattle.gob_tool.specs.Ending.{EndsRun, ends_so, flush_fails}
use Rattle.gob_tool.specs.Showing.{AppendsPrefix}
use Rattle.gob_tool.proofs.EndLaws.{all_kept, prefix_kept, sent_prefix}
use Rattle.gob_tool.specs.CheckingGo.{IsCountedGoStream, IsNoGoStream}
use Rattle.gob_why.proofs.ReadingLaws.{no_stream_under}
use Rattle.gob_why.specs.Said.{AnswersSo, IsSaidOf, SaysOf}
use Rattle.gob_why.specs.Why.{Heads, IsHeaded, IsRefusedSo, Says, Tells, WhyAnswers, of_refused, of_whole}
use Rattle.gob_why.specs.Why.{refusal_line}
use Rattle.gob_why.specs.declared.said.Said.{Said}

-- ---- a text that begins with a line
pub heads_as : {P Q : List ℕ → Type 0} {line : List ℕ} → Heads P line → ((text : List ℕ) → P text → Q text)
    → Heads Q line
heads_as h f = record { text = h.text; headed = h.headed; holds = f h.text h.holds }

pub heads : {P : List ℕ → Type 0} {line : List ℕ} (text : List ℕ) → IsHeaded line text → P text → Heads P line
heads text headed holds = record { text = text; headed = headed; holds = holds }

counted_as : {L : Bounds} {bytes : List ℕ} {now : Option (List ℕ)} {P Q : List ℕ → Type 0}
    → IsCountedGoStream L bytes now P → ((line : List ℕ) → P line → Q line) → IsCountedGoStream L bytes now Q
counted_as c f = record { items = c.items; table = c.table; stream = c.stream; end = c.end; holds = f _ c.holds }

-- ---- what is said, behind the reading
-- of a whole stream
pub whole_told : (L M : Bounds) (bytes line : List ℕ) (now old new : Option (List ℕ)) (r : Result (Unit {0}) ToolFault)
    → L ≡ M → IsCountedGoStream (within_trees L) bytes now (λ l. line ≡ l) → Tells line old new r
    → WhyAnswers (within_trees M) bytes now old new r
whole_told L M bytes line now old new (Ok u) same c t =
    subst (λ (L : Bounds). IsCountedGoStream (within_trees L) bytes now (Heads (Appends old new))) same
    (counted_as c (λ l e. subst (Heads (Appends old new)) e t))
whole_told L M bytes line now old new (Err fault.Write) same c t =
    subst (λ (L : Bounds). Says (within_trees L) bytes now (AppendsPrefix old new)) same
    (of_whole (counted_as c (λ l e. subst (Heads (AppendsPrefix old new)) e t)))
whole_told L M bytes line now old new (Err fault.Memory) same c t = t
whole_told L M bytes line now old new (Err (fault.Refused R)) same c t = absurd t
whole_told L M bytes line now old new (Err (fault.Wanted R)) same c t = absurd t
whole_told L M bytes line now old new (Err fault.NoWantedType) same c t = absurd t
whole_told L M bytes line now old new (Err (fault.Clash path reason)) same c t = absurd t
whole_told L M bytes line now old new (Err (fault.LeftOut path number)) same c t = absurd t
whole_told L M bytes line now old new (Err fault.Read) same c t = absurd t

-- of a refused one
pub refusal_told : (L M : Bounds) (bytes : List ℕ) (now old new : Option (List ℕ)) (R : Refusal) (f : ToolFault)
    → f ≡ fault.Refused R → L ≡ M → IsNoGoStream (within_trees L) bytes now f → Heads (Appends old new)
    (refusal_line R) → WhyAnswers (within_trees M) bytes now old new (Err (fault.Refused R))
refusal_told L M bytes now old new R f is same n t = (
  subst (λ (L : Bounds). IsRefusedSo (within_trees L) bytes R) same
      (subst (λ f. IsNoGoStream (within_trees L) bytes now f) is n),
  t,
)

-- which a write or want of memory stopped
pub refusal_untold : (L M : Bounds) (bytes : List ℕ) (now old new : Option (List ℕ)) (R : Refusal) (f e : ToolFault)
    → f ≡ fault.Refused R → L ≡ M → IsNoGoStream (within_trees L) bytes now f
    → Tells (refusal_line R) old new (Err e) → WhyAnswers (within_trees M) bytes now old new (Err e)
refusal_untold L M bytes now old new R f fault.Write is same n t =
    of_refused (subst (λ (L : Bounds). IsRefusedSo (within_trees L) bytes R) same
    (subst (λ f. IsNoGoStream (within_trees L) bytes now f) is n)) t
refusal_untold L M bytes now old new R f fault.Memory is same n t = t
refusal_untold L M bytes now old new R f (fault.Refused Q) is same n t = absurd t
refusal_untold L M bytes now old new R f (fault.Wanted Q) is same n t = absurd t
refusal_untold L M bytes now old new R f fault.NoWantedType is same n t = absurd t
refusal_untold L M bytes now old new R f (fault.Clash path reason) is same n t = absurd t
refusal_untold L M bytes now old new R f (fault.LeftOut path number) is same n t = absurd t
refusal_untold L M bytes now old new R f fault.Read is same n t = absurd t

-- or nothing, where no refusal is known
pub nothing_told : (L M : Bounds) (bytes : List ℕ) (now out : Option (List ℕ)) (f : ToolFault)
    → ((R : Refusal) → f ≡ fault.Refused R → ⊥) → L ≡ M → IsNoGoStream (within_trees L) bytes now f
    → WhyAnswers (within_trees M) bytes now out out (Err f)
nothing_told L M bytes now out (fault.Refused R) other same n = absurd (other R refl)
nothing_told L M bytes now out fault.Read other same n =
    (no_stream_under L M bytes now fault.Read same n, Appends-nil out)
nothing_told L M bytes now out fault.Memory other same n = Appends-nil out
nothing_told L M bytes now out fault.Write other same n = absurd n
nothing_told L M bytes now out (fault.Wanted R) other same n = absurd n
nothing_told L M bytes now out fault.NoWantedType other same n = absurd n
nothing_told L M bytes now out (fault.Clash path reason) other same n = absurd n
nothing_told L M bytes now out (fault.LeftOut path number) other same n = absurd n

-- ---- what went out
pub sent : (line text : List ℕ) (old new : Option (List ℕ)) → IsHeaded line text → Appends old new text
    → Tells line old new (Ok tt)
sent line text old new headed a = heads text headed a

pub cut : (line text : List ℕ) (old new : Option (List ℕ)) → IsHeaded line text → SentPrefix text old new
    → Tells line old new (Err fault.Write)
cut line text old new headed s = heads text headed (sent_prefix old new text s)

-- the text goes on behind its line
pub headed_by : (line words : List ℕ) {text : List ℕ} → text ≡ line ++ words → IsHeaded line text
headed_by line words e = (words, e)

-- ---- behind the flush
says_kept : (L : Bounds) (bytes : List ℕ) (now old mid new : Option (List ℕ)) → Keeps mid new
    → Says L bytes now (AppendsPrefix old mid) → Says L bytes now (AppendsPrefix old new)
says_kept L bytes now old mid new k (of_whole c) =
    of_whole (counted_as c (λ line h. heads_as h (λ text a. prefix_kept old mid new text a k)))
says_kept L bytes now old mid new k (of_refused r h) =
    of_refused r (heads_as h (λ text a. prefix_kept old mid new text a k))

why_kept : (L : Bounds) (bytes : List ℕ) (now old mid new : Option (List ℕ)) (r : Result (Unit {0}) ToolFault)
    → Keeps mid new → WhyAnswers L bytes now old mid r → WhyAnswers L bytes now old new r
why_kept L bytes now old mid new (Ok u) k h =
    counted_as h (λ line h. heads_as h (λ text a. Appends-kept old mid new text a k))
why_kept L bytes now old mid new (Err (fault.Refused R)) k h =
    (h.0, heads_as h.1 (λ text a. Appends-kept old mid new text a k))
why_kept L bytes now old mid new (Err fault.Write) k h = says_kept L bytes now old mid new k h
why_kept L bytes now old mid new (Err fault.Read) k h = (h.0, Appends-kept old mid new [] h.1 k)
why_kept L bytes now old mid new (Err fault.Memory) k h = Appends-kept old mid new [] h k
why_kept L bytes now old mid new (Err (fault.Wanted R)) k h = absurd h
why_kept L bytes now old mid new (Err fault.NoWantedType) k h = absurd h
why_kept L bytes now old mid new (Err (fault.Clash path reason)) k h = absurd h
why_kept L bytes now old mid new (Err (fault.LeftOut path number)) k h = absurd h

pub why_ended : (L : Bounds) (bytes : List ℕ) (now old mid new : Option (List ℕ))
    (answer result : Result (Unit {0}) ToolFault) → Keeps mid new → EndsRun answer result
    → WhyAnswers L bytes now old mid answer → WhyAnswers L bytes now old new result
why_ended L bytes now old mid new answer result k (ends_so e) h =
    subst (λ r. WhyAnswers L bytes now old new r) (sym e) (why_kept L bytes now old mid new answer k h)
why_ended L bytes now old mid new answer result k (flush_fails o e) h =
    subst (λ r. WhyAnswers L bytes now old new r) (sym e)
    (cut (subst (λ r. WhyAnswers L bytes now old mid r) o h))
  where
    cut : IsCountedGoStream L bytes now (Heads (Appends old mid)) → Says L bytes now (AppendsPrefix old new)
    cut c = of_whole (counted_as c (λ line h. heads_as h (λ text a. all_kept old mid new text a k)))

-- ---- over an output that was empty, what is said
headed_in : {line text old new : List ℕ} → old ≡ [] → text ≡ new → Heads (Appends (Some old) (Some new)) line
    → IsHeaded line text
headed_in empty is h = (h.headed.0, is ∙ h.holds ∙ ap (λ (l : List ℕ). l ++ h.text) empty ∙ h.headed.1)

whole_said : (L : Bounds) (bytes text old new : List ℕ) (now : Option (List ℕ)) → old ≡ [] → text ≡ new
    → IsCountedGoStream L bytes now (Heads (Appends (Some old) (Some new))) → SaysOf L bytes None text
whole_said L bytes text old new now empty is c =
    record { items = c.items; table = c.table; stream = c.stream; end = refl; holds = headed_in empty is c.holds }

answer_said : (L : Bounds) (bytes text old new : List ℕ) (now : Option (List ℕ)) (refusal : Option Refusal)
    (answer : Result (Unit {0}) ToolFault) → AnswersSo answer refusal → old ≡ [] → text ≡ new
    → WhyAnswers L bytes now (Some old) (Some new) answer → SaysOf L bytes refusal text
answer_said L bytes text old new now refusal (Ok u) so empty is h =
    subst (λ q. SaysOf L bytes q text) (sym so) (whole_said L bytes text old new now empty is h)
answer_said L bytes text old new now refusal (Err (fault.Refused R)) so empty is h =
    subst (λ q. SaysOf L bytes q text) (sym so) (h.0, headed_in empty is h.1)
answer_said L bytes text old new now refusal (Err fault.Write) so empty is h = absurd so
answer_said L bytes text old new now refusal (Err fault.Memory) so empty is h = absurd so
answer_said L bytes text old new now refusal (Err fault.Read) so empty is h = absurd so
answer_said L bytes text old new now refusal (Err (fault.Wanted R)) so empty is h = absurd so
answer_said L bytes text old new now refusal (Err fault.NoWantedType) so empty is h = absurd so
answer_said L bytes text old new now refusal (Err (fault.Clash path reason)) so empty is h = absurd so
answer_said L bytes text old new now refusal (Err (fault.LeftOut path number)) so empty is h = absurd so

pub said_from : (L : Bounds) (bytes text old new : List ℕ) (now : Option (List ℕ))
    (answer : Result (Unit {0}) ToolFault) (made : Result Said Memory) → IfOk made (λ s. AnswersSo answer s.refusal)
    → IfOk made (λ s. s.text.items ≡ text) → old ≡ [] → text ≡ new
    → WhyAnswers L bytes now (Some old) (Some new) answer → IfOk made (IsSaidOf L bytes)
said_from L bytes text old new now answer (Ok s) so is empty out h =
    answer_said L bytes s.text.items old new now s.refusal answer so empty (is ∙ out) h
said_from L bytes text old new now answer (Err e) so is empty out h = tt
