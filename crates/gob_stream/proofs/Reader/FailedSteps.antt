-- A reader that has failed has read nothing, and what a step finds where it fails.
use Rattle.std.proofs.Common.{◌≡◌, ◌≢◌, ◌∙◌, ℕ, ◌+◌, ◌-◌, ◌<◌, ◌≤◌, min, List, ◌++◌, length, take, arith, ap, sym}
use Rattle.std.proofs.Common.{subst, rules, length-append, length-take, Option, None, IfSome}
use Rattle.std.proofs.lemmas.Grind.{common_steps}
use Rattle.gob_types.specs.declared.reason.Reason.TheVariants as reason
use Rattle.gob_read.specs.Building.{Building}
use Rattle.gob_stream.specs.declared.stage.Stage.TheVariants as stage
use Rattle.gob_stream.specs.Devices.{counts_up, Rose}
use Rattle.gob_stream.specs.Item.{StreamItem}
use Rattle.gob_stream.specs.Machine.HasRead.{HasRead}
use Rattle.gob_stream.specs.Machine.SessionState.{SessionState}
use Rattle.gob_stream.proofs.Reader.SessionSteps.{IsRead}

pub not_read : {X O : Type 0} {most : ℕ} {building : Building X O most} {s : SessionState X O} {items : List StreamItem}
    {bytes : List ℕ} → HasRead building s items bytes
    → s.stage ≡ stage.Failed → ⊥
not_read h e = search rules

-- where there is no number nothing is said of it
pub nothing : {A : Type 0} (P : A → Type 0) (r : Option A) → r ≡ None → IfSome r P
nothing P r none = subst (λ r. IfSome r P) (sym none) tt

-- a read that fails is counted
rose : (failures : ℕ) → Rose failures (counts_up failures 1)
rose failures = grind (arith, common_steps)

pub rises : {failures mid new : ℕ} → new ≡ counts_up mid 1 → mid ≡ failures
    → (new ≡ counts_up failures 1) × Rose failures new
rises {failures = failures} {new = new} h same =
    let now : new ≡ counts_up failures 1 = h ∙ ap (λ n. counts_up n 1) same in
    (now, subst (λ n. Rose failures n) (sym now) (rose failures))

-- what was read stands in the chunk
pub piece_within : {n wanted : ℕ} {buf : List ℕ} (tail : List ℕ) → IsRead n wanted buf → n ≤ length (buf ++ tail)
piece_within {buf = buf} tail r = let w = r.within in omega (arith, length-append buf tail)

pub chunk_taken : {n : ℕ} (wanted : ℕ) (chunk : List ℕ) → n ≡ min 1024 wanted → length chunk ≡ 1024
    → n ≡ length (take n chunk)
chunk_taken {n = n} wanted chunk e l = omega (arith, length-take n chunk)

-- the type number of a body, and how much of the piece may be in it
pub record BodyRoom (m room : ℕ) (number piece : List ℕ) : Type 0 where
  pub within : length number ≤ m
  pub taken : room ≡ min (m - length number) (length piece)

pub body_room : {end m taken room : ℕ} (begin : ℕ) (number piece : List ℕ) → begin + length number ≡ taken
    → taken < end → end ≡ begin + m → room ≡ min (end - taken) (length piece) → BodyRoom m room number piece
body_room begin number piece b l e r = record { within = omega arith; taken = omega arith }

-- so much of the piece is in it
pub record FitsRoom (end taken used : ℕ) (bytes : List ℕ) : Type 0 where
  pub within : taken + used ≤ end
  pub some : used ≤ length bytes

pub room_fits : {end taken room : ℕ} (piece : List ℕ) → taken < end → room ≡ min (end - taken) (length piece)
    → FitsRoom end taken room piece
room_fits piece l r = record { within = omega arith; some = omega arith }

pub used_fits : {end taken room used : ℕ} (piece : List ℕ) → FitsRoom end taken room piece
    → used ≤ length (take room piece) → FitsRoom end taken used piece
used_fits {room = room} piece f l =
    record { within = omega (arith, length-take room piece); some = omega (arith, length-take room piece) }

pub bad_head_stands : reason.BadHead ≢ reason.Ended
bad_head_stands e = cc

pub not_minimal_stands : reason.NotMinimal ≢ reason.Ended
not_minimal_stands e = cc
