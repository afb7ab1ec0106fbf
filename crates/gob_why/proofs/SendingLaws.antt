-- Lines that were sent while they were made: what is answered, and what went out.
use Rattle.std.proofs.Common.{◌≡◌, ◌∙◌, ℕ, List, [], ◌++◌, Option, None, Some, Result, Ok, Err, ap, sym, subst, refl}
use Rattle.std.proofs.Common.{Bool, IfErr, append-nil, append_assoc, take, ◌-◌}
use Rattle.std.specs.Io.KnownBytes.{Appends, Keeps}
use Rattle.std.proofs.KnownBytes.{Appends-kept, Appends-nil, Appends-trans}
use Rattle.gob_types.specs.Table.{Table}
use Rattle.gob_explain.specs.Items.{ShowsFirst, ShowsItem}
use Rattle.gob_explain.specs.Putting.{PutsOn, PutsUpTo}
use Rattle.gob_explain.specs.declared.text.lines_out.LineFault.{LineFault}
use Rattle.gob_explain.specs.declared.text.lines_out.LineFault.TheVariants as line
use Rattle.gob_stream.specs.Calls.Writing.{CountsFault, CountsWriterFaults}
use Rattle.gob_stream.specs.Devices.{counts_up}
use Rattle.gob_stream.specs.Reading.{CountsReads}
use Rattle.gob_stream.specs.declared.fault.Fault.{Fault}
use Rattle.gob_stream.specs.declared.fault.Fault.TheVariants as reading
use Rattle.gob_stream.specs.declared.fault.Refusal.{Refusal}
use Rattle.gob_stream.specs.declared.fault.WriteFault.{WriteFault}
use Rattle.gob_stream.specs.declared.fault.WriteFault.TheVariants as writing
use Rattle.gob_tool.specs.Fault.{writing_fault}
use Rattle.gob_tool.specs.Sending.{Sends}
use Rattle.gob_tool.specs.Showing.{AppendsPrefix}
use Rattle.gob_tool.specs.declared.fault.ToolFault.{ToolFault}
use Rattle.gob_tool.specs.declared.fault.ToolFault.TheVariants as fault
use Rattle.gob_tool.proofs.EndLaws.{sent_prefix, writing_unread}
use Rattle.gob_why.specs.Explain.{IsRefusedChosen, IsRefusedText, explained_up_to, refused_so}
use Rattle.gob_why.specs.Machine.Keeping.{TellsRefused}
use Rattle.gob_why.specs.Machine.Sending.{sending_answer}
use Rattle.gob_why.specs.declared.explained.Explained.{Explained}

-- ---- prefixes
-- all of a text is a prefix of it
pub all_out : (old new : Option (List ℕ)) (text : List ℕ) → Appends old new text → AppendsPrefix old new text
all_out old new text a = record { prefix = text; rest = []; whole = sym (append-nil text); out = a }

pub prefix_longer : (old new : Option (List ℕ)) (x y : List ℕ) → AppendsPrefix old new x
    → AppendsPrefix old new (x ++ y)
prefix_longer old new x y p = record {
  prefix = p.prefix;
  rest = p.rest ++ y;
  whole = ap (λ (l : List ℕ). l ++ y) p.whole ∙ append_assoc p.prefix p.rest y;
  out = p.out;
}

pub prefix_behind : (old mid new : Option (List ℕ)) (x y : List ℕ) → Appends old mid x → AppendsPrefix mid new y
    → AppendsPrefix old new (x ++ y)
prefix_behind old mid new x y a p = record {
  prefix = x ++ p.prefix;
  rest = p.rest;
  whole = ap (λ (l : List ℕ). x ++ l) p.whole ∙ sym (append_assoc x p.prefix p.rest);
  out = Appends-trans old mid new x p.prefix a p.out;
}

-- ---- what went out of lines, and how many writes failed
abbrev pub SentTo : (old new : Option (List ℕ)) → (failures failures' : ℕ) → (text : List ℕ)
    → Option (LineFault WriteFault) → Type 0
SentTo old new m n text None = Appends old new text × (n ≡ m)
SentTo old new m n text (Some line.Memory) = AppendsPrefix old new text × (n ≡ m)
SentTo old new m n text (Some (line.Out e)) =
    AppendsPrefix old new text × (e ≡ writing.Write) × (n ≡ counts_up m 1)

failed_once : (m n : ℕ) (e : WriteFault) → e ≡ writing.Write → CountsWriterFaults m n (Err e) → n ≡ counts_up m 1
failed_once m n e is h = subst (λ e. CountsFault m n e) is h

-- an output that text is sent to, by what it has written and how many of its writes failed
abbrev pub SendsBy : {O : Type 0} → (out_of : O → Option (List ℕ)) → (count_of : O → ℕ) → (Same : O → O → Type 0)
    → O → O → List ℕ → Result (Unit {0}) WriteFault → Type 0
SendsBy out_of count_of Same a b text r =
    Same a b × Sends (out_of a) (out_of b) text r × CountsWriterFaults (count_of a) (count_of b) r

module _ {O : Type 0} (a b : O) (out_of : O → Option (List ℕ)) (count_of : O → ℕ) (Same : O → O → Type 0)
    (text : List ℕ) where
  sent_up_to : (g : Option (LineFault WriteFault)) → PutsUpTo (SendsBy out_of count_of Same) a b text g
      → SentTo (out_of a) (out_of b) (count_of a) (count_of b) text g
  sent_up_to None p = (p.1, p.2)
  sent_up_to (Some line.Memory) p =
      let q = p.3 in (record { prefix = p.0; rest = p.1; whole = p.2; out = q.1 }, q.2)
  sent_up_to (Some (line.Out e)) p = (
    sent_prefix (out_of a) (out_of b) text p.1.1,
    p.1.0,
    failed_once (count_of a) (count_of b) e p.1.0 p.2,
  )

  -- where there was no fault before
  pub sent_to : (f g : Option (LineFault WriteFault)) → f ≡ None
      → PutsOn (SendsBy out_of count_of Same) a f b g text
      → SentTo (out_of a) (out_of b) (count_of a) (count_of b) text g
  sent_to f g none h =
      sent_up_to g
      (subst (λ (f : Option (LineFault WriteFault)). PutsOn (SendsBy out_of count_of Same) a f b g text) none h)

-- a flush puts out no text
pub flush_sends : (old new : Option (List ℕ)) (r : Result (Unit {0}) WriteFault) → Keeps old new
    → IfErr r (λ e. e ≡ writing.Write) → Sends old new [] r
flush_sends old new (Ok u) k is = Appends-kept old old new [] (Appends-nil old) k
flush_sends old new (Err e) k is =
    (is, record { prefix = []; rest = []; whole = refl; out = Appends-kept old old new [] (Appends-nil old) k })

-- ---- by the answer
abbrev pub IsOkAnswer : Result (Unit {0}) ToolFault → Type 0
IsOkAnswer (Ok u) = Unit {0}
IsOkAnswer (Err e) = ⊥

-- where it is none, all went out
pub all_sent : (old new : Option (List ℕ)) (m n : ℕ) (text : List ℕ) (f : Option (LineFault WriteFault)) (u : Unit {0})
    → Ok u ≡ sending_answer f → SentTo old new m n text f → Appends old new text
all_sent old new m n text None u is s = s.0
all_sent old new m n text (Some line.Memory) u is s = absurd (subst IsOkAnswer is tt)
all_sent old new m n text (Some (line.Out e)) u is s = absurd (subst IsOkAnswer is tt)

pub none_failed : (f : Option (LineFault WriteFault)) (u : Unit {0}) → Ok u ≡ sending_answer f → f ≡ None
none_failed None u is = refl
none_failed (Some line.Memory) u is = absurd (subst IsOkAnswer is tt)
none_failed (Some (line.Out e)) u is = absurd (subst IsOkAnswer is tt)

-- this holds of a fault of memory, and of a failed write
abbrev pub IsCutBy : (P : Result (Unit {0}) ToolFault → Type 0) → Type 0
IsCutBy P = P (Err fault.Memory) × P (Err fault.Write)

write_answer : (P : Result (Unit {0}) ToolFault → Type 0) (e : WriteFault) → e ≡ writing.Write → P (Err fault.Write)
    → P (Err (writing_fault e))
write_answer P e is p = subst (λ e. P (Err (writing_fault e))) (sym is) p

pub cut_sent : (P : Result (Unit {0}) ToolFault → Type 0) (old new : Option (List ℕ)) (m n : ℕ) (text : List ℕ)
    (f : Option (LineFault WriteFault)) (e : ToolFault) → Err e ≡ sending_answer f → SentTo old new m n text f
    → (AppendsPrefix old new text → IsCutBy P) → P (Err e)
cut_sent P old new m n text None e is s go = absurd (subst IsOkAnswer (sym is) tt)
cut_sent P old new m n text (Some line.Memory) e is s go = subst P (sym is) (go s.0).0
cut_sent P old new m n text (Some (line.Out d)) e is s go = subst P (sym is) (write_answer P d s.1 (go s.0).1)

-- ---- of a refused item
pub refused_lines : (which : Explained) (T : Table) (offset : ℕ) (R : Refusal) (read front text words : List ℕ)
    (place : ℕ) → IsRefusedChosen which offset → front ≡ take (explained_up_to R - offset) read
    → ShowsFirst T offset front place text → IsRefusedText which T offset R read (text ++ words)
refused_lines which T offset R read front text words place chosen is h =
    refused_so words chosen (subst (λ (f : List ℕ). ShowsItem T offset f text) is h.shows)

pub refused_cut : (which : Explained) (T : Table) (offset : ℕ) (R : Refusal) (read text : List ℕ)
    (old new : Option (List ℕ)) → IsRefusedText which T offset R read text → AppendsPrefix old new text
    → IsCutBy (λ r. TellsRefused which T offset R read old new r)
refused_cut which T offset R read text old new t p = ((text, t, p), (text, t, p))

-- ---- counts
-- behind a failed read the lines have no fault, so where they have one no read failed
pub unread_so : (r : Result Bool Fault) (f : Option (LineFault WriteFault)) (e : ToolFault)
    → Err e ≡ sending_answer f → IfErr r (λ g. g ≡ reading.Read → f ≡ None) → IfErr r (λ g. g ≡ reading.Read → ⊥)
unread_so (Ok w) f e is h = tt
unread_so (Err g) f e is h = λ r. absurd (subst IsOkAnswer (sym (is ∙ ap sending_answer (h r))) tt)

pub counts_unread : (old new : ℕ) (r : Result Bool Fault) → IfErr r (λ g. g ≡ reading.Read → ⊥)
    → CountsReads old new r → new ≡ old
counts_unread old new (Ok w) other h = h
counts_unread old new (Err (reading.Refused R)) other h = h
counts_unread old new (Err reading.Read) other h = absurd (other refl)
counts_unread old new (Err reading.Memory) other h = h
counts_unread old new (Err reading.Failed) other h = h

-- what sending answers is no failed read
pub sending_unread : (f : Option (LineFault WriteFault)) (e : ToolFault) → Err e ≡ sending_answer f → e ≡ fault.Read → ⊥
sending_unread None e is r = absurd (subst IsOkAnswer (sym is) tt)
sending_unread (Some line.Memory) e is r = cc
sending_unread (Some (line.Out d)) e is r = writing_unread d cc
