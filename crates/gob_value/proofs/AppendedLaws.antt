-- What stands at the end of a vector after writing one thing behind another.
use Rattle.std.proofs.Common.{◌≡◌, ℕ, List, [], ◌++◌, refl, sym, ap, ◌∙◌, subst, append_assoc}
use Rattle.std.specs.Prelude.{Result, Ok, Err, OnOk, OnErr, IsErr}
use Rattle.std.proofs.lemmas.List.{append-nil}
use Rattle.gob_num.specs.Spelled.{Appends}

-- new begins with old
abbrev pub Keeps : List ℕ → List ℕ → Type 0
Keeps old new = Appends (λ _. Unit {0}) old new

pub keeps_all : (xs : List ℕ) → Keeps xs xs
keeps_all xs = record { bytes = []; spelled = tt; appended = sym (append-nil xs) }

pub keeps : {P : List ℕ → Type 0} {old new : List ℕ} → Appends P old new → Keeps old new
keeps a = record { bytes = a.bytes; spelled = tt; appended = a.appended }

pub keeps_then : {old mid new : List ℕ} → Keeps old mid → Keeps mid new → Keeps old new
keeps_then {old = old} a b = record {
  bytes = a.bytes ++ b.bytes;
  spelled = tt;
  appended = b.appended ∙ ap
      (λ l. l ++ b.bytes) a.appended ∙ append_assoc old a.bytes b.bytes;
}

pub keeps_same : {old mid new : List ℕ} → new ≡ mid → Keeps old mid → Keeps old new
keeps_same {old = old} e k = subst (Keeps old) (sym e) k

-- one spelling behind another
pub then : {P Q R : List ℕ → Type 0} {old mid new : List ℕ} → ((b c : List ℕ) → P b → Q c → R (b ++ c))
    → Appends P old mid → Appends Q mid new → Appends R old new
then {old = old} f a b = record {
  bytes = a.bytes ++ b.bytes;
  spelled = f a.bytes b.bytes a.spelled b.spelled;
  appended = b.appended ∙ ap (λ l. l ++ b.bytes) a.appended ∙ append_assoc old a.bytes b.bytes;
}

pub then_as : {P Q : List ℕ → Type 0} {old new : List ℕ} → ((b : List ℕ) → P b → Q b) → Appends P old new
    → Appends Q old new
then_as f a = record { bytes = a.bytes; spelled = f a.bytes a.spelled; appended = a.appended }

-- ---- a list that is written part after part

-- the parts so far are written: what the rest would write completes the whole, and this is known of the rest
pub record Goes (Whole Rest : List ℕ → Type 0) (Left : Type 0) (old out : List ℕ) : Type 0 where
  pub completes : (r : List ℕ) → Rest r → Appends Whole old (out ++ r)
  pub left : Left
  pub kept : Keeps old out

pub goes_more : {W R S P : List ℕ → Type 0} {F G : Type 0} {old out new : List ℕ} → Goes W R F old out
    → Appends P out new → ((b c : List ℕ) → P b → S c → R (b ++ c)) → G → Goes W S G old new
goes_more {W = W} {old = old} {out = out} g a join left = record {
  completes = λ r p. subst (Appends W old) (sym (append_assoc out a.bytes r) ∙ ap (λ l. l ++ r) (sym a.appended))
      (g.completes (a.bytes ++ r) (join a.bytes r a.spelled p));
  left = left;
  kept = keeps_then g.kept (keeps a);
}

pub goes_last : {W R : List ℕ → Type 0} {F : Type 0} {old out : List ℕ} → Goes W R F old out → R [] → Appends W old out
goes_last {W = W} {old = old} {out = out} g p = subst (Appends W old) (append-nil out) (g.completes [] p)

pub goes_ends : {W R P : List ℕ → Type 0} {F : Type 0} {old out new : List ℕ} → Goes W R F old out → Appends P out new
    → ((b : List ℕ) → P b → R b) → Appends W old new
goes_ends {W = W} {old = old} g a f = subst (Appends W old) (sym a.appended) (g.completes a.bytes (f a.bytes a.spelled))

-- one thing behind another
pub record Behind (First Second : List ℕ → Type 0) (bytes : List ℕ) : Type 0 where
  pub prefix : List ℕ
  pub back : List ℕ
  pub first : First prefix
  pub second : Second back
  pub whole : bytes ≡ prefix ++ back

pub behind : {P Q : List ℕ → Type 0} (b c : List ℕ) → P b → Q c → Behind P Q (b ++ c)
behind b c p q = record { prefix = b; back = c; first = p; second = q; whole = refl }

pub on_err_any : {A E P : Type 0} (r : Result A E) → P → OnErr r P
on_err_any (Ok a) p = tt
on_err_any (Err e) p = p

pub on_ok_failed : {A E : Type 0} (P : Type 0) (r : Result A E) → IsErr r → OnOk r P
on_ok_failed P (Ok a) f = cc
on_ok_failed P (Err e) f = tt
