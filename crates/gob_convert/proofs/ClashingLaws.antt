-- What a path of steps leads to is one pair.
use Rattle.std.specs.Global.{Global}
use Rattle.std.specs.Prelude.{slice_get, Vec}
use Rattle.std.proofs.Common.{◌≡◌, ◌∙◌, ℕ, List, [], ◌∷◌, Option, None, Some, MatchOption, ap, ap₂, sym, subst, refl}
use Rattle.gob_types.specs.declared.id.TypeId.{TypeId}
use Rattle.gob_types.specs.declared.kind.Field.{Field}
use Rattle.gob_types.specs.declared.kind.Kind.{Kind}
use Rattle.gob_types.specs.declared.kind.Shape.{Shape}
use Rattle.gob_types.specs.Table.{Table, shape_of}
use Rattle.gob_types.proofs.PublicLaws.{some_injective}
use Rattle.gob_match.specs.Clashing.{here, IsLeastClash, LeadsBySteps, onward}
use Rattle.gob_match.specs.Matching.{HasMatchingShapes, KindsMatch, NamesByStep, structs}
use Rattle.gob_match.specs.Pairs.{HasFieldNamed, HasName, NamesPair, of_types, RepeatsName}
use Rattle.gob_match.specs.Pairs.{element_of_arrays, element_of_maps, element_of_slices, field_of_structs, key_of_maps}
use Rattle.gob_match.specs.declared.pair.TypePair.{TypePair}
use Rattle.gob_match.specs.declared.reason.ClashReason.{ClashReason}
use Rattle.gob_match.specs.declared.step.TypeStep.{TypeStep}
use Rattle.gob_match.proofs.ConversionLaws.{one_number}
use Rattle.gob_convert.specs.Clashing.{TellsClash}
use Rattle.gob_convert.specs.Kinds.{value_kind}
use Rattle.gob_convert.specs.Machine.Clashing.{IsBehind}
use Rattle.gob_convert.specs.declared.clash.ValueKind.{ValueKind}

-- where no name is repeated the field of a name has one type
field_type : {fs : List Field} {name : List _} {t : TypeId} (type : Option TypeId) → ¬ RepeatsName fs
    → HasFieldNamed fs name t → MatchOption type (¬ HasName fs name) (HasFieldNamed fs name) → type ≡ Some t
field_type None distinct a lacks =
    absurd (lacks (record { number = a.number; field = a.field; there = a.there; named = a.named }))
field_type {fs = fs} (Some u) distinct a h =
    let same = one_number distinct h.there a.there (h.named ∙ sym a.named) in
    ap Some (sym h.typed ∙ ap (λ (f : Field). f.id) (some_injective (sym h.there ∙ ap (slice_get fs) same ∙ a.there))
    ∙ a.typed)

pub behind_stream : {k l : Kind} {s : TypeStep} {q : TypePair} (type : Option TypeId) → KindsMatch k l
    → NamesPair k l s q → IsBehind k s type → type ≡ Some q.stream
behind_stream type m element_of_arrays is = is
behind_stream type m element_of_slices is = is
behind_stream type m key_of_maps is = is
behind_stream type m element_of_maps is = is
behind_stream type (structs distinct common) (field_of_structs a b) is = field_type type distinct.in_stream a is

pub behind_wanted : {k l : Kind} {s : TypeStep} {q : TypePair} (type : Option TypeId) → KindsMatch k l
    → NamesPair k l s q → IsBehind l s type → type ≡ Some q.wanted
behind_wanted type m element_of_arrays is = is
behind_wanted type m element_of_slices is = is
behind_wanted type m key_of_maps is = is
behind_wanted type m element_of_maps is = is
behind_wanted type (structs distinct common) (field_of_structs a b) is = field_type type distinct.in_wanted b is

-- ---- by the shapes that were looked up
module _ {T W : Table} {p : TypePair} {shape other : Shape} (stream : shape_of T p.stream ≡ Some shape)
    (wanted : shape_of W p.wanted ≡ Some other) where
  pub shapes_match : HasMatchingShapes T W p → KindsMatch shape.kind other.kind
  shapes_match m = subst (λ (s : Shape). KindsMatch s.kind other.kind) (some_injective (sym m.shapes.stream ∙ stream))
      (subst (λ (o : Shape). KindsMatch m.stream.kind o.kind) (some_injective (sym m.shapes.wanted ∙ wanted)) m.match)

  pub shapes_name : {s : TypeStep} {q : TypePair} → NamesByStep T W p s q → NamesPair shape.kind other.kind s q
  shapes_name {s = s} {q = q} n =
      subst (λ (a : Shape). NamesPair a.kind other.kind s q) (some_injective (sym n.shapes.stream ∙ stream))
      (subst (λ (o : Shape). NamesPair n.stream.kind o.kind s q) (some_injective (sym n.shapes.wanted ∙ wanted))
      n.named)

  pub stream_behind : {s : TypeStep} {q : TypePair} (type : Option TypeId) → HasMatchingShapes T W p
      → NamesByStep T W p s q → IsBehind shape.kind s type → type ≡ Some q.stream
  stream_behind type m n is = behind_stream type (shapes_match m) (shapes_name n) is

  pub wanted_behind : {s : TypeStep} {q : TypePair} (type : Option TypeId) → HasMatchingShapes T W p
      → NamesByStep T W p s q → IsBehind other.kind s type → type ≡ Some q.wanted
  wanted_behind type m n is = behind_wanted type (shapes_match m) (shapes_name n) is

pub same_pair : {t u : TypeId} {q : TypePair} → t ≡ q.stream → u ≡ q.wanted → of_types t u ≡ q
same_pair e f = ap₂ of_types e f

-- ---- step by step
pub leads_behind : {T W : Table} {s : TypeStep} {path : List TypeStep} {p q last : TypePair}
    → LeadsBySteps T W (s ∷ path) p last → ((next : TypePair) → NamesByStep T W p s next → q ≡ next)
    → LeadsBySteps T W path q last
leads_behind {T = T} {W = W} {path = path} {last = last} (onward m n l) is =
    subst (λ (p : TypePair). LeadsBySteps T W path p last) (sym (is _ n)) l

pub leads_nowhere : {T W : Table} {p last : TypePair} → LeadsBySteps T W [] p last → p ≡ last
leads_nowhere here = refl

pub first_matches : {T W : Table} {s : TypeStep} {path : List TypeStep} {p last : TypePair}
    → LeadsBySteps T W (s ∷ path) p last → HasMatchingShapes T W p
first_matches (onward m n l) = m

pub first_names : {T W : Table} {s : TypeStep} {path : List TypeStep} {p last : TypePair}
    → LeadsBySteps T W (s ∷ path) p last → (next : TypePair) × NamesByStep T W p s next
first_names (onward m n l) = (_, n)

-- ---- at the end
pub tells_clash : {T W : Table} {t u : TypeId} {pair : TypePair} (path : Vec TypeStep Global) (reason : ClashReason)
    (number : ℕ) (stream wanted : ValueKind) (least : IsLeastClash T W t u path.items reason)
    → pair ≡ least.clash.last
    → ((s : Shape) → shape_of T pair.stream ≡ Some s → stream ≡ value_kind s.kind)
    → ((s : Shape) → shape_of W pair.wanted ≡ Some s → wanted ≡ value_kind s.kind)
    → TellsClash T W t u
    (record { path = path; reason = reason; value = number; stream = stream; wanted = wanted })
tells_clash {T = T} {W = W} path reason number stream wanted least is of_stream of_wanted =
    let clash = least.clash.clash in
    record {
      least = least;
      stream = of_stream clash.stream (ap (λ (p : TypePair). shape_of T p.stream) is ∙ clash.shapes.stream);
      wanted = of_wanted clash.wanted (ap (λ (p : TypePair). shape_of W p.wanted) is ∙ clash.shapes.wanted);
    }
