-- Sums of the ints of a list, and what is left of them while its elements are gone over.
use Rattle.std.proofs.Common.{◌≡◌, ◌≢◌, ℕ, ◌+◌, ◌*◌, ◌/◌, ◌%◌, List, ℤ, pos, negsuc, ◌+ℤ◌, arith, Option, Some, None}
use Rattle.std.proofs.Common.{refl, sym, ap, ◌∙◌, subst}
use Rattle.std.specs.Prelude.{◌==◌, if◌then◌else◌, FitsSigned}
use Rattle.std.specs.Int.{int_wrap, w64}
use Rattle.std.proofs.lemmas.Int.{int_wrap-add_left, int_wrap_fits}
use Rattle.std.proofs.Math.IntN.{+ℤ_assoc, +ℤ_idl, +ℤ_idr}
use Rattle.gob_value.specs.Tree.{Tree, Trees, no_tree, tree}
use Rattle.gob_value.specs.Tree as Value
use Rattle.gob_tape.specs.declared.kind.ValueKind.{ValueKind}
use Rattle.gob_tape.specs.declared.kind.ValueKind.TheVariants as kind
use Rattle.gob_tape.specs.declared.view.View.{View}
use Rattle.gob_tape.specs.declared.view.Children.{Children}
use Rattle.gob_read.specs.Leaf.{signed_of}
use Rattle.gob_tape.specs.Seeing.{kind_of, numbers_of, unsigned_of, Sees, Gives, GivesNext, gives_one, elements}
use Rattle.gob_tape_tests.specs.Sums.{sum_of}

-- these elements are to come, and with their sum the sum is all
pub record SumLeft (parts : Children) (sum all : ℤ) : Type 0 where
  pub rest : Trees
  pub gives : Gives parts (elements rest)
  pub left : int_wrap w64 (sum +ℤ sum_of rest) ≡ int_wrap w64 all

-- the number that a part adds
abbrev pub added : Tree → ℤ
added (Value.int i) = i
added _ = pos 0

-- what a part adds
sum_part : (v : Tree) (vs : Trees) → sum_of (tree v vs) ≡ added v +ℤ sum_of vs
sum_part (Value.int i) vs = refl
sum_part (Value.bool x) vs = sym (+ℤ_idl _)
sum_part (Value.uint x) vs = sym (+ℤ_idl _)
sum_part (Value.float x) vs = sym (+ℤ_idl _)
sum_part (Value.complex x y) vs = sym (+ℤ_idl _)
sum_part (Value.bytes x) vs = sym (+ℤ_idl _)
sum_part (Value.text x) vs = sym (+ℤ_idl _)
sum_part Value.nil vs = sym (+ℤ_idl _)
sum_part (Value.many x) vs = sym (+ℤ_idl _)
sum_part (Value.pairs x) vs = sym (+ℤ_idl _)
sum_part (Value.fields x) vs = sym (+ℤ_idl _)
sum_part (Value.opaque x) vs = sym (+ℤ_idl _)

pub sum_begun : {parts : Children} (vs : Trees) → Gives parts (elements vs) → SumLeft parts (pos 0) (sum_of vs)
sum_begun vs g = record { rest = vs; gives = g; left = ap (int_wrap w64) (+ℤ_idl (sum_of vs)) }

-- one part was added
pub sum_on : {parts others : Children} {part : View} {old new all : ℤ} → SumLeft parts old all
    → ((xs : List (Option ℕ × Tree)) → Gives parts xs → GivesNext others xs (Some part))
    → ((f : Option ℕ) (v : Tree) → Sees part f v → new ≡ int_wrap w64 (old +ℤ added v))
    → SumLeft others new all
sum_on {others = others} {part = part} {old = old} {new = new} {all = all} l n w = by l.rest l.left (n _ l.gives)
  where
    by : (vs : Trees) → int_wrap w64 (old +ℤ sum_of vs) ≡ int_wrap w64 all → GivesNext others (elements vs) (Some part)
        → SumLeft others new all
    by no_tree q h = elim h [ ]
    by (tree v vs) q (gives_one s g) = record {
      rest = vs;
      gives = g;
      left = ap (λ n. int_wrap w64 (n +ℤ sum_of vs)) (w None v s) ∙ int_wrap-add_left w64 (old +ℤ added v) (sum_of vs)
          ∙ ap (int_wrap w64) (+ℤ_assoc old (added v) (sum_of vs) ∙ ap (λ s. old +ℤ s) (sym (sum_part v vs))) ∙ q;
    }

-- no part is left
pub sum_end : {parts others : Children} {sum all : ℤ} → SumLeft parts sum all
    → ((xs : List (Option ℕ × Tree)) → Gives parts xs → GivesNext others xs None)
    → int_wrap w64 sum ≡ int_wrap w64 all
sum_end {others = others} {sum = sum} {all = all} l n = by l.rest l.left (n _ l.gives)
  where
    by : (vs : Trees) → int_wrap w64 (sum +ℤ sum_of vs) ≡ int_wrap w64 all → GivesNext others (elements vs) None
        → int_wrap w64 sum ≡ int_wrap w64 all
    by no_tree q h = ap (int_wrap w64) (sym (+ℤ_idr sum)) ∙ q
    by (tree v vs) q h = elim h [ ]

-- ---- what a part's number says

signed_unsigned : (i : ℤ) → signed_of (unsigned_of i) ≡ i
signed_unsigned (pos n) =
    let even : 2 * n % 2 ≡ 0 = omega arith in
    let half : 2 * n / 2 ≡ n = omega arith in
    ap (λ r. if r == 0 then pos (2 * n / 2) else negsuc (2 * n / 2)) even ∙ ap pos half
signed_unsigned (negsuc n) =
    let odd : (2 * n + 1) % 2 ≡ 1 = omega arith in
    let half : (2 * n + 1) / 2 ≡ n = omega arith in
    ap (λ r. if r == 0 then pos ((2 * n + 1) / 2) else negsuc ((2 * n + 1) / 2)) odd ∙ ap negsuc half

abbrev IsInt : ValueKind → Type 0
IsInt kind.Int = Unit {0}
IsInt _ = ⊥

int_adds : (v : Tree) → IsInt (kind_of v) → signed_of (numbers_of v).0 ≡ added v
int_adds (Value.int i) h = signed_unsigned i
int_adds (Value.bool x) h = absurd h
int_adds (Value.uint x) h = absurd h
int_adds (Value.float x) h = absurd h
int_adds (Value.complex x y) h = absurd h
int_adds (Value.bytes x) h = absurd h
int_adds (Value.text x) h = absurd h
int_adds Value.nil h = absurd h
int_adds (Value.many x) h = absurd h
int_adds (Value.pairs x) h = absurd h
int_adds (Value.fields x) h = absurd h
int_adds (Value.opaque x) h = absurd h

-- an int adds the signed number that its number stands for
pub int_added : (v : Tree) (k : ValueKind) (n : ℕ × ℕ) (i : ℤ) → k ≡ kind.Int → k ≡ kind_of v → n ≡ numbers_of v
    → i ≡ signed_of n.0 → i ≡ added v
int_added v k n i is e m s = s ∙ ap (λ (n : ℕ × ℕ). signed_of n.0) m ∙ int_adds v (subst IsInt (sym is ∙ e) tt)

nothing_adds : (v : Tree) → kind_of v ≢ kind.Int → added v ≡ pos 0
nothing_adds (Value.int i) h = absurd (h refl)
nothing_adds (Value.bool x) h = refl
nothing_adds (Value.uint x) h = refl
nothing_adds (Value.float x) h = refl
nothing_adds (Value.complex x y) h = refl
nothing_adds (Value.bytes x) h = refl
nothing_adds (Value.text x) h = refl
nothing_adds Value.nil h = refl
nothing_adds (Value.many x) h = refl
nothing_adds (Value.pairs x) h = refl
nothing_adds (Value.fields x) h = refl
nothing_adds (Value.opaque x) h = refl

-- any other part adds nothing
pub nothing_added : (v : Tree) (k : ValueKind) (sum : ℤ) → FitsSigned w64 sum → k ≢ kind.Int → k ≡ kind_of v
    → sum ≡ int_wrap w64 (sum +ℤ added v)
nothing_added v k sum fits not e =
    sym (int_wrap_fits w64 sum fits) ∙ ap (int_wrap w64)
    (sym (+ℤ_idr sum) ∙ ap (λ a. sum +ℤ a) (sym (nothing_adds v (λ h. not (e ∙ h)))))
