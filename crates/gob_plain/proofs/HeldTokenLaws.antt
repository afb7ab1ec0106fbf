-- Where what an interface holds begins and ends, its tokens say the events.
use Rattle.std.proofs.Common.{◌≡◌, ◌≢◌, ℕ, List, [], ◌∷◌, ◌++◌, Bool, true, false, Result, Ok, Err, refl, sym, subst}
use Rattle.std.proofs.Common.{◌∙◌}
use Rattle.std.proofs.lemmas.List.{append_cancel_right}
use Rattle.std.specs.Prelude.{◌==◌, OnOk, not, if◌then◌else◌}
use Rattle.std.proofs.Common.{◌⊎◌, inl, inr, ap, nat_eq}
use Rattle.std.proofs.lemmas.Bool.Decides.{eqb_tells}
use Rattle.json.specs.Json.{Members}
use Rattle.json.specs.Json as json
use Rattle.json.specs.Token.{Token}
use Rattle.json.specs.Tree.{members_tokens}
use Rattle.gob_types.specs.Table.{Table}
use Rattle.gob_types.specs.declared.id.TypeId.{TypeId}
use Rattle.gob_types.specs.declared.kind.Field.{Field}
use Rattle.gob_value.specs.Tree.{no_field}
use Rattle.gob_filled_walk.specs.HeldEvent.{held_begins, held_ends}
use Rattle.gob_plain.specs.declared.style.Style.{Style}
use Rattle.gob_plain.specs.declared.visitor.VisitorPlace.{VisitorPlace}
use Rattle.gob_plain.specs.declared.visitor.VisitorPlace.TheVariants as place
use Rattle.gob_plain.specs.AbsentFields.{AbsentTokens, ZeroTokens}
use Rattle.gob_plain.specs.Filled.{between, zeros_before}
use Rattle.gob_plain.specs.HeldEvents.{plain_events, tag_field}
use Rattle.gob_plain.specs.OpaqueText.{content_in}
use Rattle.gob_plain.specs.Plain.{name_text, SayFields}
use Rattle.gob_plain.specs.PlainEvents.{SaysEvents}
use Rattle.gob_plain.specs.PlainEvents as said
use Rattle.gob_plain.proofs.PlaceLaws.{no_name}
use Rattle.gob_plain.proofs.ZeroLaws.{absent_none, absent_zeros, zeros_none}

-- a parameter by its number
abbrev pub is_so : ℕ → Bool
is_so n = not (nat_eq n 0)

so_true : (n : ℕ) → (n ≡ 0 → ⊥) → is_so n ≡ true
so_true n other = by (eqb_tells n 0)
  where
    by : ((n == 0) ≡ true) × (n ≡ 0) ⊎ ((n == 0) ≡ false) × (n ≢ 0) → is_so n ≡ true
    by (inl h) = absurd (other h.1)
    by (inr h) = ap not h.0

so_false : (n : ℕ) → n ≡ 0 → is_so n ≡ false
so_false n none = ap is_so none

-- ---- no field lies between a number and itself

pub absent_nothing : (style : Style) (T : Table) (types : List Field) (n : ℕ) → between types 0 n ≡ 0
    → AbsentTokens style T types 0 n []
absent_nothing style T types n none = by style.zeros refl
  where
    by : (z : Bool) → style.zeros ≡ z → AbsentTokens style T types 0 n []
    by true e = absent_zeros style T types 0 n [] e
        (subst (λ m. ZeroTokens T types 0 m []) (sym none) (zeros_none T types 0))
    by false e = absent_none style T types 0 n e

pub nothing_absent : (style : Style) (T : Table) (types : List Field) (n : ℕ) (zs : List Token)
    → between types 0 n ≡ 0 → AbsentTokens style T types 0 n zs → zs ≡ []
nothing_absent style T types n zs none a =
    let all = a (content_in style) no_field json.no_members tt in
    append_cancel_right zs [] (Token.end_object ∷ []) (all.2 ∙ by all.0 style.zeros all.1)
  where
    by : (ms : Members) (z : Bool) → SayFields (content_in style) T types
        (if z then zeros_before T types 0 (between types 0 n) no_field else no_field) ms
        → members_tokens ms ≡ Token.end_object ∷ []
    by json.no_members z h = refl
    by (json.member name j ms) false h = absurd h
    by (json.member name j ms) true h = absurd
        (subst (λ m. SayFields (content_in style) T types (zeros_before T types 0 m no_field) (json.member name j ms))
        none h)

-- ---- in a style

module _ (style : Style) (T : Table) {a b : VisitorPlace} (n : ℕ) where
  pub opens_tagged : (name : List ℕ) (t : TypeId) → (n ≡ 0 → ⊥) → (a ≡ place.Free → b ≡ place.Free)
      → (a ≢ place.Free → b ≡ place.Lost)
      → SaysEvents style T a (plain_events (is_so n) (held_begins name t ∷ []))
      (Token.begin_object ∷ Token.key (name_text name) ∷ []) b
  opens_tagged name t is free lost =
      subst (λ s. SaysEvents style T a (plain_events s (held_begins name t ∷ []))
      (Token.begin_object ∷ Token.key (name_text name) ∷ []) b) (sym (so_true n is)) (no_name free lost
      (said.says_struct (said.says_field [] (absent_nothing style T (tag_field name t) 0 refl) said.says_nothing)))

  pub opens_bare : (name : List ℕ) (t : TypeId) → n ≡ 0 → (a ≡ place.Free → b ≡ place.Free)
      → (a ≢ place.Free → b ≡ place.Lost)
      → SaysEvents style T a (plain_events (is_so n) (held_begins name t ∷ [])) [] b
  opens_bare name t is free lost =
      subst (λ s. SaysEvents style T a (plain_events s (held_begins name t ∷ [])) [] b) (sym (so_false n is))
      (no_name free lost (said.says_element said.says_nothing))

  pub closes_tagged : (n ≡ 0 → ⊥) → (a ≡ place.Free → b ≡ place.Free) → (a ≢ place.Free → b ≡ place.Lost)
      → SaysEvents style T a (plain_events (is_so n) (held_ends ∷ [])) (Token.end_object ∷ []) b
  closes_tagged is free lost =
      subst (λ s. SaysEvents style T a (plain_events s (held_ends ∷ [])) (Token.end_object ∷ []) b) (sym (so_true n is))
      (no_name free lost
      (said.says_field_end (said.says_struct_end [] (absent_nothing style T [] 0 refl) said.says_nothing)))

-- nothing is told there
pub closes_bare : {style : Style} {T : Table} {a : VisitorPlace} (n : ℕ) → n ≡ 0
    → SaysEvents style T a (plain_events (is_so n) (held_ends ∷ [])) [] a
closes_bare {style = style} {T = T} {a = a} n is =
    subst (λ s. SaysEvents style T a (plain_events s (held_ends ∷ [])) [] a) (sym (so_false n is)) said.says_nothing
