-- The open values of an item: each segment ends within the one around it, and the skeletons are no longer than the
-- bytes that lead there.
use Rattle.std.proofs.Common.{ℕ, ◌+◌, ◌-◌, ◌<◌, ◌≤◌, List, [], ◌∷◌, ◌++◌, length, arith, length-append}
use Rattle.gob_num.proofs.PublicLaws.{unsigned_length, signed_unsigned}
use Rattle.gob_types.specs.Table.{Table}
use Rattle.gob_stream.specs.Bounds.{Bounds}
use Rattle.gob_filled.specs.Standing.{Level, Next, IsNextCount, of_item, within, Stands, at_value, behind_name}
use Rattle.gob_filled.specs.Standing.{behind_definition, at_inner, behind_inner}

-- where what the innermost segment stands in ends
abbrev pub around_ends : Bounds → List Level → ℕ
around_ends L [] = L.stream
around_ends L (around ∷ levels) = around.end

pub record IsNested (L : Bounds) (at : ℕ) (lv : Level) (levels : List Level) : Type 0 where
  pub ends : lv.end ≤ around_ends L levels
  pub limit : lv.limit ≤ L.depth
  pub done : length lv.done < at

-- so many bytes of the stream lead to the levels
abbrev pub AreNested : Bounds → ℕ → List Level → Type 0
AreNested L at [] = Unit {0}
AreNested L at (lv ∷ levels) = IsNested L at lv levels × AreNested L (at - 1) levels

further : (L : Bounds) (levels : List Level) (at more : ℕ) → at ≤ more → AreNested L at levels
    → AreNested L more levels
further L [] at more l n = tt
further L (lv ∷ levels) at more l n = (
  record { ends = n.0.ends; limit = n.0.limit; done = let d = n.0.done in omega arith },
  further L levels (at - 1) (more - 1) (omega arith) n.1,
)

next_ends : {L : Bounds} {at left end left' : ℕ} {levels : List Level} {c : List ℕ}
    → IsNextCount L at left levels c end left' → end ≤ around_ends L levels
next_ends (of_item u l e s k) = s
next_ends (within u e l) = l

pub levels_nest : {base : Table} {L : Bounds} {T : Table} {offset : ℕ} {z : List ℕ} {U : Table} {levels : List Level}
    {next : Next} {left : ℕ} → Stands base L T offset z U levels next left → AreNested L (offset + length z) levels
levels_nest (at_value {c = c} {a = a} u l e s sg short may k) = (
  record {
    ends = s;
    limit = omega arith;
    done = let n = (unsigned_length u).0 in omega (arith, length-append c a);
  },
  tt,
)
levels_nest {offset = offset} (behind_name {z = z} {a = a} {lv = lv} {levels = levels} c s p ex dl sh some u fit) =
    let n = levels_nest p in
    let size = length-append z (c ++ (a ++ s)) in let more = length-append c (a ++ s) in
    let d = n.0.done in (
      record { ends = n.0.ends; limit = n.0.limit; done = omega (arith, length-append lv.done c) },
      further _ levels _ _ (omega arith) n.1,
    )
levels_nest {offset = offset} (behind_definition {z = z} {b = b} {c = c} {levels = levels} p def e k) =
    let n = levels_nest p in
    let size = length-append z (b ++ c) in
    let d = n.0.done in (
      record { ends = next_ends k; limit = n.0.limit; done = omega arith },
      further _ levels _ _ (omega arith) n.1,
    )
levels_nest {offset = offset} (at_inner {z = z} {n = b} {c = c} {lv = lv} {levels = levels} p may sg u e l) =
    let n = levels_nest p in
    let size = length-append z (b ++ c) in let more = length-append b c in
    let some = (unsigned_length u).0 in let number = (unsigned_length (signed_unsigned sg).1).0 in
    let d = n.0.done in let below = n.0.limit in (
      record { ends = l; limit = omega arith; done = omega arith },
      (
        record { ends = n.0.ends; limit = n.0.limit; done = omega arith },
        further _ levels _ _ (omega arith) n.1,
      ),
    )
levels_nest {offset = offset} (behind_inner {z = z} {around = around} {levels = levels} b p sp de e) =
    let n = levels_nest p in
    let size = length-append z b in
    let d = n.1.0.done in (
      record { ends = n.1.0.ends; limit = n.1.0.limit; done = omega (arith, length-append around.done (0 ∷ [])) },
      further _ levels _ _ (omega arith) n.1.1,
    )

-- all within what the stream may have
pub within_stream : (L : Bounds) (levels : List Level) (lv : Level) (at : ℕ) → AreNested L at (lv ∷ levels)
    → lv.end ≤ L.stream
within_stream L [] lv at n = n.0.ends
within_stream L (around ∷ levels) lv at n =
    let more = within_stream L levels around (at - 1) n.1 in let here = n.0.ends in omega arith
