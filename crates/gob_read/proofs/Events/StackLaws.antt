-- A stack of open parts, as it grows, shrinks and changes at its end.
use Rattle.std.proofs.Common.{◌≡◌, ℕ, ◌+◌, ◌<◌, suc, List, [], ◌∷◌, ◌++◌, length, get_or, set, take, drop, map, Option}
use Rattle.std.proofs.Common.{Some, arith, refl, sym, ap, ◌∙◌}
use Rattle.std.proofs.lemmas.List.{reverse-append, set_split}
use Rattle.std.proofs.lemmas.Grind.{common_steps}
use Rattle.gob_value.specs.Tree.{Tree}
use Rattle.gob_read.specs.declared.tree_part.TreePart.{TreePart}
use Rattle.gob_read.specs.Machine.Built.{OpenPart, Work, added_part, closed, changed, put_in, left_in}
use Rattle.gob_read.specs.Machine.Stack.{part_view, stack_view}

abbrev pub work : List OpenPart → Option Tree → Work
work parts whole = record { parts = parts; whole = whole }

abbrev pub seen : List TreePart → Option Tree → Work
seen parts whole = record { parts = stack_view parts; whole = whole }

pub stack_pushed : (parts : List TreePart) (x : TreePart) → stack_view (parts ++ x ∷ []) ≡ part_view x ∷ stack_view
    parts
stack_pushed parts x = ap (map part_view) (reverse-append parts (x ∷ []))

drop_all : (parts : List TreePart) (i : ℕ) → length parts ≡ i → drop i parts ≡ []
drop_all parts i h = grind (arith, common_steps)

pub set_last : (parts : List TreePart) (i : ℕ) (y : TreePart) → i + 1 ≡ length parts → set parts i y ≡ take i parts
    ++ y ∷ []
set_last parts i y h = set_split parts i y (omega arith)
    ∙ ap (λ l. take i parts ++ y ∷ l) (drop_all parts (suc i) (omega arith))

set_same : (parts : List TreePart) (i : ℕ) (x : TreePart) → i < length parts → x ≡ get_or parts i x
    → set parts i x ≡ parts
set_same parts i x h e = grind (arith, common_steps)

-- the innermost part, and those around it
pub stack_top : (parts : List TreePart) (i : ℕ) (x : TreePart) → i + 1 ≡ length parts → x ≡ get_or parts i x
    → stack_view parts ≡ part_view x ∷ stack_view (take i parts)
stack_top parts i x h e = ap stack_view (sym (set_same parts i x (omega arith) e) ∙ set_last parts i x h)
    ∙ stack_pushed (take i parts) x

pub stack_set : (parts : List TreePart) (i : ℕ) (y : TreePart) → i + 1 ≡ length parts
    → stack_view (set parts i y) ≡ part_view y ∷ stack_view (take i parts)
stack_set parts i y h = ap stack_view (set_last parts i y h) ∙ stack_pushed (take i parts) y

-- the innermost part is changed
pub stack_changed : (f : OpenPart → OpenPart) (parts : List TreePart) (i : ℕ) (x y : TreePart) → i + 1 ≡ length parts
    → x ≡ get_or parts i x → part_view y ≡ f (part_view x) → stack_view (set parts i y) ≡ changed f (stack_view parts)
stack_changed f parts i x y h e c = stack_set parts i y h ∙ ap (λ p. p ∷ stack_view (take i parts)) c
    ∙ ap (changed f) (sym (stack_top parts i x h e))

pub put_last : (parts : List TreePart) (whole : Option Tree) (v : Tree) (i : ℕ) (x y : TreePart) → i + 1 ≡ length parts
    → x ≡ get_or parts i x → part_view y ≡ added_part (part_view x) v
    → seen (set parts i y) whole ≡ put_in (stack_view parts) whole v
put_last parts whole v i x y h e c =
    ap (λ ps. work ps whole) (stack_set parts i y h ∙ ap (λ p. p ∷ stack_view (take i parts)) c)
    ∙ ap (λ ps. put_in ps whole v) (sym (stack_top parts i x h e))

pub put_first : (parts : List TreePart) (whole : Option Tree) (v : Tree) → length parts ≡ 0
    → seen parts (Some v) ≡ put_in (stack_view parts) whole v
put_first [] whole v h = refl
put_first (x ∷ parts) whole v h = absurd (omega arith)

pub stack_left : (old new : List TreePart) (x : TreePart) (whole : Option Tree) → old ≡ new ++ x ∷ []
    → put_in (stack_view new) whole (closed (part_view x)) ≡ left_in (stack_view old) whole
stack_left old new x whole e = ap (λ ps. left_in ps whole) (sym (ap stack_view e ∙ stack_pushed new x))

pub none_left : (parts : List TreePart) (whole : Option Tree) → length parts ≡ 0
    → seen parts whole ≡ left_in (stack_view parts) whole
none_left [] whole h = refl
none_left (x ∷ parts) whole h = absurd (omega arith)

pub none_changed : (f : OpenPart → OpenPart) (parts : List TreePart) → length parts ≡ 0
    → stack_view parts ≡ changed f (stack_view parts)
none_changed f [] h = refl
none_changed f (x ∷ parts) h = absurd (omega arith)
