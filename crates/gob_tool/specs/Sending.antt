-- Text that is sent while it is made.
use Rattle.std.specs.Prelude.{◌≡◌, ℕ, List, ◌++◌, Option, Result, Ok, Err}
use Rattle.std.specs.Io.KnownBytes.{Appends}
use Rattle.std.proofs.Common.{sym, ap, ◌∙◌, subst, append_assoc}
use Rattle.std.proofs.KnownBytes.{Appends-trans}
use Rattle.gob_stream.specs.Calls.Writing.{CountsWriterFaults, SentPrefix}
use Rattle.gob_stream.specs.declared.fault.WriteFault.{WriteFault}
use Rattle.gob_stream.specs.declared.fault.WriteFault.TheVariants as fault

-- the text went out, or a prefix of it
abbrev pub Sends : (old new : Option (List ℕ)) → List ℕ → Result (Unit {0}) WriteFault → Type 0
Sends old new text (Ok _) = Appends old new text
Sends old new text (Err e) = (e ≡ fault.Write) × SentPrefix text old new

pub sends_both : (old mid new : Option (List ℕ)) (x y : List ℕ) (r : Result (Unit {0}) WriteFault) → Appends old mid x
    → Sends mid new y r → Sends old new (x ++ y) r
sends_both old mid new x y (Ok u) a b = Appends-trans old mid new x y a b
sends_both old mid new x y (Err e) a b = (
  b.0,
  record {
    prefix = x ++ b.1.prefix;
    rest = b.1.rest;
    whole = ap (λ l. x ++ l) b.1.whole ∙ sym (append_assoc x b.1.prefix b.1.rest);
    out = Appends-trans old mid new x b.1.prefix a b.1.out;
  },
)

pub sends_more : (old new : Option (List ℕ)) (x y : List ℕ) (e : WriteFault) → Sends old new x (Err e)
    → Sends old new (x ++ y) (Err e)
sends_more old new x y e s = (
  s.0,
  record {
    prefix = s.1.prefix;
    rest = s.1.rest ++ y;
    whole = ap (λ l. l ++ y) s.1.whole ∙ append_assoc s.1.prefix s.1.rest y;
    out = s.1.out;
  },
)

pub sent_counts : (old mid new : ℕ) (r : Result (Unit {0}) WriteFault) → mid ≡ old → CountsWriterFaults mid new r
    → CountsWriterFaults old new r
sent_counts old mid new r e p = subst (λ n. CountsWriterFaults n new r) e p
