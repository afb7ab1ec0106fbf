-- The numbers of the nils of a value are its own, if it is nil, and those in its parts.
use Rattle.std.proofs.Common.{◌≡◌, ◌∙◌, ℕ, ◌+◌, List, [], ◌∷◌, ◌++◌, Option, Some, None, arith, ap, refl, sym}
use Rattle.std.proofs.Common.{append_assoc, append-nil}
use Rattle.gob_value.specs.Tree.{Tree, Trees, no_tree, tree, Pairs, no_pair, pair, Fields, no_field, field}
use Rattle.gob_value.specs.Tree as Value
use Rattle.gob_read.specs.Weight.{part_count, parts_of_all, parts_of_pairs, parts_of_fields}
use Rattle.gob_tape.specs.Seeing.{Gives, GivesNext, gives_none, gives_one, Sees, elements, alternating, present}
use Rattle.gob_tape.specs.Seeing.{kind_of, parts_of}
use Rattle.gob_tape.specs.declared.kind.ValueKind.{ValueKind}
use Rattle.gob_tape.specs.declared.kind.ValueKind.TheVariants as kind
use Rattle.gob_tape.specs.declared.view.Children.{Children}
use Rattle.gob_tape.specs.declared.view.View.{View}
use Rattle.gob_plain.specs.HeldPlain.{nil_parts, nil_parts_of_each, nil_parts_of_pairs, nil_parts_of_fields}
use Rattle.gob_plain.specs.Machine.Placing.{own_nil}

-- ---- parts one behind another, each with its number in a struct

abbrev count_of : List (Option ℕ × Tree) → ℕ
count_of [] = 0
count_of (x ∷ xs) = part_count x.1 + count_of xs

abbrev nils_in : ℕ → List (Option ℕ × Tree) → List ℕ
nils_in n [] = []
nils_in n (x ∷ xs) = nil_parts n x.1 ++ nils_in (n + part_count x.1) xs

each_count : (vs : Trees) → parts_of_all vs ≡ count_of (elements vs)
each_count no_tree = refl
each_count (tree v vs) = ap (λ n. part_count v + n) (each_count vs)

pairs_count : (ps : Pairs) → parts_of_pairs ps ≡ count_of (alternating ps)
pairs_count no_pair = refl
pairs_count (pair k e ps) = ap (λ n. part_count k + (part_count e + n)) (pairs_count ps)

fields_count : (fs : Fields) → parts_of_fields fs ≡ count_of (present fs)
fields_count no_field = refl
fields_count (field f v fs) = ap (λ n. part_count v + n) (fields_count fs)

each_nils : (n : ℕ) (vs : Trees) → nil_parts_of_each n vs ≡ nils_in n (elements vs)
each_nils n no_tree = refl
each_nils n (tree v vs) = ap (λ l. nil_parts n v ++ l) (each_nils (n + part_count v) vs)

pairs_nils : (n : ℕ) (ps : Pairs) → nil_parts_of_pairs n ps ≡ nils_in n (alternating ps)
pairs_nils n no_pair = refl
pairs_nils n (pair k e ps) =
    ap (λ l. nil_parts n k ++ (nil_parts (n + part_count k) e ++ l)) (pairs_nils (n + part_count k + part_count e) ps)

fields_nils : (n : ℕ) (fs : Fields) → nil_parts_of_fields n fs ≡ nils_in n (present fs)
fields_nils n no_field = refl
fields_nils n (field f v fs) = ap (λ l. nil_parts n v ++ l) (fields_nils (n + part_count v) fs)

-- ---- a part, and those in it

parts_counted : (v : Tree) → part_count v ≡ count_of (parts_of v) + 1
parts_counted (Value.many vs) = ap (λ n. n + 1) (each_count vs)
parts_counted (Value.pairs ps) = ap (λ n. n + 1) (pairs_count ps)
parts_counted (Value.fields fs) = ap (λ n. n + 1) (fields_count fs)
parts_counted (Value.bool b) = refl
parts_counted (Value.int i) = refl
parts_counted (Value.uint n) = refl
parts_counted (Value.float p) = refl
parts_counted (Value.complex p q) = refl
parts_counted (Value.bytes s) = refl
parts_counted (Value.text s) = refl
parts_counted Value.nil = refl
parts_counted (Value.opaque s) = refl

nils_parted : (n : ℕ) (v : Tree) → nil_parts n v ≡ own_nil (kind_of v) n ++ nils_in (n + 1) (parts_of v)
nils_parted n (Value.many vs) = each_nils (n + 1) vs
nils_parted n (Value.pairs ps) = pairs_nils (n + 1) ps
nils_parted n (Value.fields fs) = fields_nils (n + 1) fs
nils_parted n (Value.bool b) = refl
nils_parted n (Value.int i) = refl
nils_parted n (Value.uint u) = refl
nils_parted n (Value.float p) = refl
nils_parted n (Value.complex p q) = refl
nils_parted n (Value.bytes s) = refl
nils_parted n (Value.text s) = refl
nils_parted n Value.nil = refl
nils_parted n (Value.opaque s) = refl

-- ---- part by part

-- of a value, which is a part of this number, the parts that are to come have the numbers from the second one on: these
-- nils and theirs are all
pub record NilsLeft (parts : Children) (number behind : ℕ) (v : Tree) (old now : List ℕ) : Type 0 where
  pub left : List (Option ℕ × Tree)
  pub gives : Gives parts left
  pub count : number + part_count v ≡ behind + count_of left
  pub so : old ++ nil_parts number v ≡ now ++ nils_in behind left

pub nils_begun : {parts : Children} {number behind : ℕ} {v : Tree} {k : ValueKind} {old now : List ℕ}
    → Gives parts (parts_of v) → k ≡ kind_of v → behind ≡ number + 1 → now ≡ old ++ own_nil k number
    → NilsLeft parts number behind v old now
nils_begun {number = number} {behind = behind} {v = v} {k = k} {old = old} {now = now} g e b n = record {
  left = parts_of v;
  gives = g;
  count = let c = parts_counted v in omega (arith, c, b);
  so = ap (λ l. old ++ l) (nils_parted number v
      ∙ ap (λ k. own_nil k number ++ nils_in (number + 1) (parts_of v)) (sym e))
      ∙ sym (append_assoc old (own_nil k number) (nils_in (number + 1) (parts_of v)))
      ∙ ap (λ l. l ++ nils_in (number + 1) (parts_of v)) (sym n)
      ∙ ap (λ m. now ++ nils_in m (parts_of v)) (sym b);
}

pub nils_on : {parts rest : Children} {number behind next : ℕ} {v : Tree} {part : View} {old now new : List ℕ}
    → NilsLeft parts number behind v old now
    → ((xs : List (Option ℕ × Tree)) → Gives parts xs → GivesNext rest xs (Some part))
    → ((f : Option ℕ) (x : Tree) → Sees part f x → next ≡ behind + part_count x)
    → ((f : Option ℕ) (x : Tree) → Sees part f x → new ≡ now ++ nil_parts behind x)
    → NilsLeft rest number next v old new
nils_on {rest = rest} {number = number} {behind = behind} {next = next} {v = v} {part = part} {old = old} {now = now}
    {new = new} h given count nils =
    by h.left (given h.left h.gives) h.count h.so
  where
    by : (xs : List (Option ℕ × Tree)) → GivesNext rest xs (Some part) → number + part_count v ≡ behind + count_of xs
        → old ++ nil_parts number v ≡ now ++ nils_in behind xs → NilsLeft rest number next v old new
    by [] x c so = elim x [ ]
    by (x ∷ xs) (gives_one {f = f} {v = y} s g) c so =
        let at = count f y s in
        record {
          left = xs;
          gives = g;
          count = omega (arith, c, at);
          so = so ∙ sym (append_assoc now (nil_parts behind y) (nils_in (behind + part_count y) xs))
              ∙ ap (λ l. l ++ nils_in (behind + part_count y) xs) (sym (nils f y s))
              ∙ ap (λ m. new ++ nils_in m xs) (sym at);
        }

pub nils_ended : {parts rest : Children} {number behind : ℕ} {v : Tree} {old now : List ℕ}
    → NilsLeft parts number behind v old now
    → ((xs : List (Option ℕ × Tree)) → Gives parts xs → GivesNext rest xs None)
    → (behind ≡ number + part_count v) × (now ≡ old ++ nil_parts number v)
nils_ended {rest = rest} {number = number} {behind = behind} {v = v} {old = old} {now = now} h given =
    by h.left (given h.left h.gives) h.count h.so
  where
    by : (xs : List (Option ℕ × Tree)) → GivesNext rest xs None → number + part_count v ≡ behind + count_of xs
        → old ++ nil_parts number v ≡ now ++ nils_in behind xs
        → (behind ≡ number + part_count v) × (now ≡ old ++ nil_parts number v)
    by (_ ∷ _) x c so = elim x [ ]
    by [] (gives_none g) c so = (omega (arith, c), sym (so ∙ append-nil now))

pub own_none : (k : ValueKind) (n : ℕ) → (k ≡ kind.Nil → ⊥) → own_nil k n ≡ []
own_none kind.Nil n h = absurd (h refl)
own_none kind.Bool n h = refl
own_none kind.Int n h = refl
own_none kind.Uint n h = refl
own_none kind.Float n h = refl
own_none kind.Complex n h = refl
own_none kind.Bytes n h = refl
own_none kind.Str n h = refl
own_none kind.Many n h = refl
own_none kind.Pairs n h = refl
own_none kind.Fields n h = refl
own_none kind.Opaque n h = refl
