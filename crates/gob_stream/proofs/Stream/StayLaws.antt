-- A refusal that the bytes show stays, whatever follows them.
use Rattle.std.proofs.Common.{◌≡◌, ◌≢◌, ℕ, ◌-◌, ◌≤◌, List, ◌++◌, length, take, drop, arith, refl, sym, ap, ◌∙◌, subst}
use Rattle.std.proofs.Common.{append_assoc, length-append}
use Rattle.std.proofs.Math.Seq.{take-append_seam}
use Rattle.std.proofs.lemmas.List.{take-append-drop, length-take}
use Rattle.gob_types.specs.declared.reason.Reason.TheVariants as reason
use Rattle.gob_types.specs.Table.{Table}
use Rattle.gob_types.specs.Base.{base_table}
use Rattle.gob_stream.specs.declared.fault.Refusal.{Refusal}
use Rattle.gob_stream.specs.Bounds.{Bounds}
use Rattle.gob_stream.specs.Item.{StreamItem}
use Rattle.gob_stream.specs.Stream.{Stream}
use Rattle.gob_stream.specs.Outcome.{RefusesNext, refused, EndsSo, next_refused, within_an_item}
use Rattle.gob_stream.specs.Reading.{ShowsRefusal}
use Rattle.gob_stream.proofs.Stream.OutcomeLaws.{outcome_refused}
use Rattle.gob_stream.proofs.Stream.ShownLaws.{take_past, next_seen, next_seen_behind, next_shown}

-- what is refused behind the stream of the items
pub record IsRefusedBehind (L : Bounds) (bytes : List ℕ) (items : List StreamItem) (R : Refusal) : Type 0 where
  pub prefix : List ℕ
  pub left : List ℕ
  pub table : Table
  pub stream : Stream base_table L items prefix table
  pub whole : bytes ≡ prefix ++ left
  pub next : RefusesNext base_table L table (length prefix) left R

pub refused_behind : {L : Bounds} {bytes : List ℕ} {items : List StreamItem} {R : Refusal}
    → EndsSo base_table L bytes items (refused R) → R.reason ≢ reason.Ended → IsRefusedBehind L bytes items R
refused_behind (next_refused {f = f} z p e q) n = record {
  prefix = f;
  left = z;
  table = _;
  stream = p;
  whole = e;
  next =
      q;
}
refused_behind (within_an_item z p e m q) n = absurd (n refl)

-- the bytes that show it are there
pub shown_there : {L : Bounds} {bytes : List ℕ} {items : List StreamItem} {R : Refusal} → ShowsRefusal L bytes items R
    → R.seen ≤ length bytes
shown_there h =
    let b = refused_behind h.outcome.ends h.shown in
    let seen = next_seen b.next in
    omega (arith, ap length b.whole, length-append b.prefix b.left)

-- other bytes that begin with those that show it
others_begin : (f y w others : List ℕ) (k : ℕ) → length f ≤ k → take k others ≡ take k (f ++ (y ++ w))
    → length y ≡ k - length f → others ≡ f ++ (y ++ drop k others)
others_begin f y w others k l e n =
    sym (take-append-drop k others) ∙ ap (λ t. t ++ drop k others) (e ∙ take_past f (y ++ w) k l
    ∙ ap (λ t. f ++ t) (all y w (k - length f) n)) ∙ append_assoc f y (drop k others)
  where
    all : (y w : List ℕ) (k : ℕ) → length y ≡ k → take k (y ++ w) ≡ y
    all y w k n = ap (λ k. take k (y ++ w)) (sym n) ∙ take-append_seam y w

pub shown_refusal_stays : (L : Bounds) (bytes others : List ℕ) (items : List StreamItem) (R : Refusal)
    → ShowsRefusal L bytes items R → take R.seen others ≡ take R.seen bytes → (R.seen ≤ length bytes)
    × ShowsRefusal L others items R
shown_refusal_stays L bytes others items R h e =
    let b = refused_behind h.outcome.ends h.shown in
    let k = R.seen - length b.prefix in
    let behind = next_seen_behind b.next in
    let seen = next_seen b.next in
    let size : length (take k b.left) ≡ k = omega (arith, length-take k b.left) in
    let parts : b.left ≡ take k b.left ++ drop k b.left = sym (take-append-drop k b.left) in
    let next = subst (λ z. RefusesNext base_table L b.table (length b.prefix) z R) parts b.next in
    let same : take R.seen others ≡ take R.seen (b.prefix ++ (take k b.left ++ drop k b.left)) = e
    ∙ ap (λ l. take R.seen l) (b.whole ∙ ap (λ l. b.prefix ++ l) parts) in
    let whole = others_begin b.prefix (take k b.left) (drop k b.left) others R.seen (omega arith) same size in (
      omega (arith, ap length b.whole, length-append b.prefix b.left),
      record {
        outcome = outcome_refused (take k b.left ++ drop R.seen others) whole b.stream
            (next_shown (take k b.left) (drop k b.left) (drop R.seen others) next (omega arith));
        shown = h.shown;
      },
    )
