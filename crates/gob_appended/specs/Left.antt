-- How much of what comes is given as it is.
use Rattle.std.specs.Prelude.{ℕ, zero, suc, ◌-◌, ◌≤◌, Bool, true, false}
use Rattle.gob_appended.specs.Once.{Part, leaving, rest, staying}
use Rattle.gob_appended.specs.declared.left.Left.{Left}
use Rattle.gob_appended.specs.declared.left.Left.TheVariants as left

abbrev pub part_of : Left → Part
part_of (left.Bytes n) = staying n
part_of left.All = rest

-- no item is to begin at once
abbrev pub goes_on : Part → Bool
goes_on (staying zero) = false
goes_on (staying (suc n)) = true
goes_on (leaving zero) = false
goes_on (leaving (suc n)) = true
goes_on rest = true

-- so many bytes stay
abbrev pub Covers : Part → ℕ → Type 0
Covers (staying n) k = k ≤ n
Covers (leaving n) k = ⊥
Covers rest k = Unit {0}

-- what is left of it behind so many bytes
abbrev pub without : Part → ℕ → Part
without (staying n) k = staying (n - k)
without (leaving n) k = leaving (n - k)
without rest k = rest
