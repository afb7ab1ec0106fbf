-- How a node keeps what it says in four words.
use Rattle.std.specs.Prelude.{◌≡◌, refl, ℕ, Bool, true, false, Option, Some, None}
use Rattle.gob_types.specs.declared.basic.Basic.{Basic}
use Rattle.gob_tape.specs.declared.node.Content.{Content}
use Rattle.gob_tape.specs.declared.node.Content.TheVariants as content
use Rattle.gob_tape.specs.declared.node.PartKind.{PartKind}
use Rattle.gob_tape.specs.declared.node.PartKind.TheVariants as kind
use Rattle.gob_tape.specs.declared.node.Node.TheInside.{Inside}
use Rattle.gob_tape.specs.Machine.Noted.{Noted}

-- the number of a field, which a part that is none has not
abbrev pub field_of : Bool → ℕ → Option ℕ
field_of true n = Some n
field_of false n = None

-- the content with these two numbers
abbrev pub content_of : PartKind → ℕ → ℕ → Content
content_of (kind.Number k) a b = content.Number k a b
content_of (kind.Raw k) a b = content.Raw k a b
content_of (kind.Group k) a b = content.Group k a b

abbrev pub noted : Inside → Noted
noted n = record { field = field_of n.named n.number; content = content_of n.kind n.first n.second }

abbrev pub is_named : Option ℕ → Bool
is_named (Some n) = true
is_named None = false

abbrev pub number_of : Option ℕ → ℕ
number_of (Some n) = n
number_of None = 0

abbrev pub part_kind : Content → PartKind
part_kind (content.Number k a b) = kind.Number k
part_kind (content.Raw k a b) = kind.Raw k
part_kind (content.Group k a b) = kind.Group k

abbrev pub first_number : Content → ℕ
first_number (content.Number k a b) = a
first_number (content.Raw k a b) = a
first_number (content.Group k a b) = a

abbrev pub second_of : Content → ℕ
second_of (content.Number k a b) = b
second_of (content.Raw k a b) = b
second_of (content.Group k a b) = b

abbrev pub packed : Noted → Inside
packed n = record {
  kind = part_kind n.content;
  named = is_named n.field;
  number = number_of n.field;
  first = first_number n.content;
  second = second_of n.content;
}

-- the number that a part which is no field doesn't have is 0
abbrev pub IsPacked : Inside → Type 0
IsPacked n = number_of (field_of n.named n.number) ≡ n.number

-- what a node says is all that it keeps
named_back : (b : Bool) (n : ℕ) → is_named (field_of b n) ≡ b
named_back true n = refl
named_back false n = refl

kind_back : (k : PartKind) (a b : ℕ) → part_kind (content_of k a b) ≡ k
kind_back (kind.Number k) a b = refl
kind_back (kind.Raw k) a b = refl
kind_back (kind.Group k) a b = refl

first_back : (k : PartKind) (a b : ℕ) → first_number (content_of k a b) ≡ a
first_back (kind.Number k) a b = refl
first_back (kind.Raw k) a b = refl
first_back (kind.Group k) a b = refl

second_back : (k : PartKind) (a b : ℕ) → second_of (content_of k a b) ≡ b
second_back (kind.Number k) a b = refl
second_back (kind.Raw k) a b = refl
second_back (kind.Group k) a b = refl

pub packed_back : (n : Inside) → IsPacked n → packed (noted n) ≡ n
packed_back n h = rw (
  named_back n.named n.number,
  kind_back n.kind n.first n.second,
  first_back n.kind n.first n.second,
  second_back n.kind n.first n.second,
  h,
) refl
