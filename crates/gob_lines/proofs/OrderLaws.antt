-- The members of a definition say the same in whatever order they stand.
use Rattle.std.proofs.Common.{◌≡◌, ap, codes, refl, subst, sym}
use Rattle.serde_json.specs.Data.{Data, Members, member, no_members, object}
use Rattle.gob_types.specs.declared.id.TypeId.{TypeId}
use Rattle.gob_types.specs.declared.kind.Shape.{Shape}
use Rattle.gob_lines.specs.Definition.{IsDefinitionJson, IsNewPart, Part, SaysParts, one_more, shape_parts}
use Rattle.gob_lines.specs.Definition.{no_part, with_part}
use Rattle.gob_lines.specs.Numbers.{IsNatural}
use Rattle.gob_lines.specs.DefinitionLaws.{IsRearranged, again, behind_one, swapped, unmoved}
use Rattle.gob_lines.specs.declared.definition_parts.Parts.{Parts}

-- of two parts each may be said first
record Apart (p : Parts) (a b : Part) : Type 0 where
  pub first : IsNewPart b p
  pub second : IsNewPart a (with_part b p)
  pub same : with_part b (with_part a p) ≡ with_part a (with_part b p)

apart : (p : Parts) (a b : Part) → IsNewPart a p → IsNewPart b (with_part a p) → Apart p a b
apart p (Part.elem a) (Part.elem b) f g = absurd (cc)
apart p (Part.elem a) (Part.fields b) f g = record { first = g; second = f; same = refl }
apart p (Part.elem a) (Part.key b) f g = record { first = g; second = f; same = refl }
apart p (Part.elem a) (Part.kind_name b) f g = record { first = g; second = f; same = refl }
apart p (Part.elem a) (Part.len b) f g = record { first = g; second = f; same = refl }
apart p (Part.elem a) (Part.name b) f g = record { first = g; second = f; same = refl }
apart p (Part.fields a) (Part.elem b) f g = record { first = g; second = f; same = refl }
apart p (Part.fields a) (Part.fields b) f g = absurd (cc)
apart p (Part.fields a) (Part.key b) f g = record { first = g; second = f; same = refl }
apart p (Part.fields a) (Part.kind_name b) f g = record { first = g; second = f; same = refl }
apart p (Part.fields a) (Part.len b) f g = record { first = g; second = f; same = refl }
apart p (Part.fields a) (Part.name b) f g = record { first = g; second = f; same = refl }
apart p (Part.key a) (Part.elem b) f g = record { first = g; second = f; same = refl }
apart p (Part.key a) (Part.fields b) f g = record { first = g; second = f; same = refl }
apart p (Part.key a) (Part.key b) f g = absurd (cc)
apart p (Part.key a) (Part.kind_name b) f g = record { first = g; second = f; same = refl }
apart p (Part.key a) (Part.len b) f g = record { first = g; second = f; same = refl }
apart p (Part.key a) (Part.name b) f g = record { first = g; second = f; same = refl }
apart p (Part.kind_name a) (Part.elem b) f g = record { first = g; second = f; same = refl }
apart p (Part.kind_name a) (Part.fields b) f g = record { first = g; second = f; same = refl }
apart p (Part.kind_name a) (Part.key b) f g = record { first = g; second = f; same = refl }
apart p (Part.kind_name a) (Part.kind_name b) f g = absurd (cc)
apart p (Part.kind_name a) (Part.len b) f g = record { first = g; second = f; same = refl }
apart p (Part.kind_name a) (Part.name b) f g = record { first = g; second = f; same = refl }
apart p (Part.len a) (Part.elem b) f g = record { first = g; second = f; same = refl }
apart p (Part.len a) (Part.fields b) f g = record { first = g; second = f; same = refl }
apart p (Part.len a) (Part.key b) f g = record { first = g; second = f; same = refl }
apart p (Part.len a) (Part.kind_name b) f g = record { first = g; second = f; same = refl }
apart p (Part.len a) (Part.len b) f g = absurd (cc)
apart p (Part.len a) (Part.name b) f g = record { first = g; second = f; same = refl }
apart p (Part.name a) (Part.elem b) f g = record { first = g; second = f; same = refl }
apart p (Part.name a) (Part.fields b) f g = record { first = g; second = f; same = refl }
apart p (Part.name a) (Part.key b) f g = record { first = g; second = f; same = refl }
apart p (Part.name a) (Part.kind_name b) f g = record { first = g; second = f; same = refl }
apart p (Part.name a) (Part.len b) f g = record { first = g; second = f; same = refl }
apart p (Part.name a) (Part.name b) f g = absurd (cc)

exchanged : {p q : Parts} {ms ns : Members} → SaysParts p ms q → IsRearranged ms ns → SaysParts p ns q
exchanged says unmoved = says
exchanged (one_more part fresh is says) (behind_one r) = one_more part fresh is (exchanged says r)
exchanged {p = p} {q = q} (one_more a f i (one_more {ms = ms} b g j says)) swapped =
    let r = apart p a b f g in
    one_more b r.first j (one_more a r.second i (subst (λ (x : Parts). SaysParts x ms q) r.same says))
exchanged says (again r s) = exchanged (exchanged says r) s

abbrev members_of : Data → Members
members_of (object (member k d ms)) = ms
members_of d = no_members

abbrev number_of : Data → Data
number_of (object (member k d ms)) = d
number_of d = d

pub rearranged : (id : TypeId) (s : Shape) (j : Data) (ms ns : Members) → IsRearranged ms ns
    → IsDefinitionJson id s (object (member (codes "define") j ms))
    → IsDefinitionJson id s (object (member (codes "define") j ns))
rearranged id s j ms ns r d = record {
  number = j;
  members = ns;
  numbered = subst (λ (n : Data). IsNatural id.0 n) (sym (ap number_of d.is)) d.numbered;
  says = exchanged (subst (λ (l : Members). SaysParts no_part l (shape_parts s.kind s.name)) (sym (ap members_of d.is))
      d.says) r;
  is = refl;
}
