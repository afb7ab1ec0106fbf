-- The skeleton of a value under way, behind more bytes of it.
use Rattle.std.proofs.Common.{◌≡◌, ℕ, List, [], ◌++◌, Bool, true, false, IsTrue, arith, refl, ap, ◌∙◌, subst}
use Rattle.std.proofs.Common.{length-append}
use Rattle.gob_go.specs.declared.skeleton.Skeleton.{Skeleton}
use Rattle.gob_go.specs.Machine.Skeleton.{kept_of, SkeletonIs, SkeletonGrows}

kept_behind : (keep : Bool) (y z : List ℕ) → kept_of keep y ++ kept_of keep z ≡ kept_of keep (y ++ z)
kept_behind true y z = refl
kept_behind false y z = refl

nothing_kept : (keep : Bool) → [] ≡ kept_of keep []
nothing_kept true = refl
nothing_kept false = refl

pub skeleton_begins : {s : Skeleton} (keep : Bool) → s.length ≡ 0 → s.bytes.items ≡ [] → SkeletonIs keep s []
skeleton_begins keep l b = record { length_is = l; bytes_are = b ∙ nothing_kept keep }

pub skeleton_on : {keep : Bool} {s s' : Skeleton} {y z : List ℕ} → SkeletonIs keep s y → SkeletonGrows keep s s' z
    → SkeletonIs keep s' (y ++ z)
skeleton_on {keep = keep} {y = y} {z = z} h g = record {
  length_is = omega (arith, g.length_is, h.length_is, length-append y z);
  bytes_are = g.bytes_are ∙ ap (λ (q : List ℕ). q ++ kept_of keep z) h.bytes_are ∙ kept_behind keep y z;
}

pub skeleton_as : {keep : Bool} {s : Skeleton} {y z : List ℕ} → SkeletonIs keep s y → y ≡ z → SkeletonIs keep s z
skeleton_as {keep = keep} {s = s} h e = subst (λ z. SkeletonIs keep s z) e h

-- where it is kept, its bytes are there
pub skeleton_kept : {keep : Bool} {s : Skeleton} {z : List ℕ} → SkeletonIs keep s z → IsTrue keep → s.bytes.items ≡ z
skeleton_kept {keep = true} h on = h.bytes_are
skeleton_kept {keep = false} h on = cc
