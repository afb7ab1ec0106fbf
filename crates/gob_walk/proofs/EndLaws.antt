-- Where parts end that stand in a body, whether it is known that they do or it was looked at.
use Rattle.std.proofs.Common.{◌≡◌, ℕ, ◌+◌, ◌≤◌, Bool, not, nat_eq, List, length, Result, Ok, Err, IfOk, arith, subst}
use Rattle.std.proofs.Common.{sym}
use Rattle.gob_value.specs.Machine.Begins.{BeginsRaw, BeginsThisNumber, HoldsBetween}
use Rattle.gob_value.proofs.PublicLaws.{all_three, both, seen}
use Rattle.gob_value.proofs.WholeSteps.{raw_stands}
use Rattle.gob_walk.specs.Standing.{EndsAt}

-- whether it is known
abbrev pub is_known : ℕ → Bool
is_known n = not (nat_eq n 0)

-- an answer of a place, if any
pub if_ok : {A E : Type 0} {P Q : A → Type 0} (r : Result A E) → ((x : A) → P x → Q x) → IfOk r P → IfOk r Q
if_ok (Ok x) f p = f x p
if_ok (Err e) f p = tt

pub end_found : {known : Bool} {P : List ℕ → List ℕ → Type 0} {body : List ℕ} {a b : ℕ} → HoldsBetween P body a b
    → EndsAt known P body a b
end_found p = record { inside = p.inside; stands = λ k. p }

pub end_seen : {known : Bool} {P Q : List ℕ → List ℕ → Type 0} {body : List ℕ} {a b : ℕ} → EndsAt known P body a b
    → ((x y : List ℕ) → P x y → Q x y) → EndsAt known Q body a b
end_seen p f = record { inside = p.inside; stands = λ k. seen (p.stands k) f }

pub end_of_both : {known : Bool} {P Q R : List ℕ → List ℕ → Type 0} {body : List ℕ} {a b c : ℕ}
    → EndsAt known P body a b
    → EndsAt known Q body b c → ((x y z : List ℕ) → P x y → Q y z → R x z) → EndsAt known R body a c
end_of_both p q f = record { inside = q.inside; stands = λ k. both (p.stands k) (q.stands k) f }

pub end_of_three : {known : Bool} {P Q R S : List ℕ → List ℕ → Type 0} {body : List ℕ} {a b c d : ℕ}
    → EndsAt known P body a b → EndsAt known Q body b c → EndsAt known R body c d
    → ((x y z w : List ℕ) → P x y → Q y z → R z w → S x w) → EndsAt known S body a d
end_of_three p q r f = record { inside = r.inside; stands = λ k. all_three (p.stands k) (q.stands k) (r.stands k) f }

-- so many bytes behind their count
pub end_of_raw : {known : Bool} {body : List ℕ} {at begin count end : ℕ} → EndsAt known (BeginsThisNumber count) body at
    begin
    → begin + count ≤ length body → end ≡ begin + count → EndsAt known BeginsRaw body at end
end_of_raw {body = body} {at = at} {begin = begin} {count = count} p enough up = record {
  inside = omega arith;
  stands = λ k. subst (λ e. HoldsBetween BeginsRaw body at e) (sym up)
      (raw_stands body at begin count (p.stands k) (omega arith));
}
