-- Where a visitor is, and what is said there of one event.
use Rattle.std.proofs.Common.{◌-◌}
use Rattle.std.proofs.Common.{◌≡◌, ◌≢◌, ℕ, List, [], ◌∷◌, ◌++◌, Bool, Option, length}
use Rattle.std.proofs.Common.{refl, sym, subst, append-nil, ◌∙◌, true}
use Rattle.std.proofs.Common.{Result, Ok, Err, Some, None, IfSome, arith, false}
use Rattle.std.specs.Prelude.{◌==◌, slice_get}
use Rattle.std.specs.Bool.{MatchBool}
use Rattle.std.specs.Str.{is_utf8}
use Rattle.std.proofs.lemmas.Str.{is_utf8-from_IsUtf8, IsUtf8-nil}
use Rattle.std.specs.declared.alloc.AllocError.{AllocError}
use Rattle.json.specs.Token.{Token}
use Rattle.json.specs.Tree.{json_tokens}
use Rattle.json.specs.Written.{Written}
use Rattle.gob_types.specs.declared.id.TypeId.{TypeId}
use Rattle.gob_types.specs.declared.kind.Field.{Field}
use Rattle.gob_types.specs.declared.kind.Shape.{Shape}
use Rattle.gob_types.specs.Table.{Table}
use Rattle.gob_value.specs.Tree.{Tree}
use Rattle.gob_json.specs.Json.{field_name}
use Rattle.gob_value.specs.Tree.{Trees, tree_count}
use Rattle.gob_walk.specs.Standing.{BeginsElements}
use Rattle.gob_walk.proofs.TellLaws.{ElementsLeft}
use Rattle.gob_walk.specs.Event.{elements_told}
use Rattle.gob_walk.specs.Event.{Event, leaf, raw, map_begins, map_ends, entry, entry_ends, present, struct_ends}
use Rattle.gob_plain.specs.declared.style.Style.{Style}
use Rattle.gob_plain.specs.declared.visitor.VisitorPlace.{VisitorPlace}
use Rattle.gob_plain.specs.declared.visitor.VisitorPlace.TheVariants as place
use Rattle.gob_plain.specs.AbsentFields.{AbsentTokens}
use Rattle.gob_plain.specs.OpaqueText.{SaysContent, content_of}
use Rattle.gob_plain.specs.Plain.{gives_names, key_text, name_text, text_bytes}
use Rattle.gob_plain.specs.PlainEvents.{SaysEvents, LeafSays, map_opens, map_closes, entry_closes}
use Rattle.gob_plain.specs.PlainEvents as said
use Rattle.gob_plain.specs.WritesPlain.{AreTokensOf, WritesSome}
use Rattle.gob_json_writer.specs.WritesJson.{WritesTokens}
use Rattle.gob_plain.proofs.SomeLaws.{some_of, some_then}
use Rattle.gob_plain.specs.TellsTokens.{TellsTokens}
use Rattle.gob_walk.specs.Told.{Reaches}
use Rattle.gob_walk.specs.declared.walk_end.WalkEnd.{WalkEnd}
use Rattle.gob_walk.proofs.AnswerLaws.{reached_both, reached_prefix}

module _ {style : Style} {T : Table} where
  -- what is no name is said between two parts alone
  pub no_name : {a b : VisitorPlace} {es : List Event} {ts : List Token} → (a ≡ place.Free → b ≡ place.Free)
      → (a ≢ place.Free → b ≡ place.Lost) → SaysEvents style T place.Free es ts place.Free
      → SaysEvents style T a es ts b
  no_name {a = place.Free} {es = es} {ts = ts} free lost p =
      subst (λ b. SaysEvents style T place.Free es ts b) (sym (free refl)) p
  no_name {a = place.Name} {es = es} {ts = ts} free lost p =
      subst (λ b. SaysEvents style T place.Name es ts b) (sym (lost (λ e. cc))) said.says_lost
  no_name {a = place.Lost} {es = es} {ts = ts} free lost p =
      subst (λ b. SaysEvents style T place.Lost es ts b) (sym (lost (λ e. cc))) said.says_lost

  -- a name is due
  pub name_due : {a b c : VisitorPlace} {k : TypeId} {later : Bool} → gives_names k ≡ true
      → (a ≡ place.Free → b ≡ place.Free) → (a ≢ place.Free → b ≡ place.Lost)
      → (b ≡ place.Free → c ≡ place.Name) → (b ≡ place.Lost → c ≡ place.Lost)
      → SaysEvents style T a (entry k later ∷ []) [] c
  name_due {a = place.Free} {k = k} {later = later} named free lost due gone =
      subst (λ c. SaysEvents style T place.Free (entry k later ∷ []) [] c) (sym (due (free refl)))
      (said.says_due named said.says_nothing)
  name_due {a = place.Name} {k = k} {later = later} named free lost due gone =
      subst (λ c. SaysEvents style T place.Name (entry k later ∷ []) [] c) (sym (gone (lost (λ e. cc)))) said.says_lost
  name_due {a = place.Lost} {k = k} {later = later} named free lost due gone =
      subst (λ c. SaysEvents style T place.Lost (entry k later ∷ []) [] c) (sym (gone (lost (λ e. cc)))) said.says_lost

  -- the name
  pub name_said : {a b : VisitorPlace} (x : Tree) → is_utf8 (text_bytes x) ≡ true → (a ≡ place.Name) × (b ≡ place.Free)
      → SaysEvents style T a (leaf x ∷ []) (Token.key (key_text x) ∷ []) b
  name_said {a = place.Free} x u is = absurd (let e = is.0 in cc)
  name_said {a = place.Lost} x u is = absurd (let e = is.0 in cc)
  name_said {a = place.Name} x u is =
      subst (λ b. SaysEvents style T place.Name (leaf x ∷ []) (Token.key (key_text x) ∷ []) b) (sym is.1)
      (said.says_name u said.says_nothing)

  -- nothing is said any more
  pub lost_said : {a b : VisitorPlace} {es : List Event} {ts : List Token} → b ≡ place.Lost
      → SaysEvents style T a es ts b
  lost_said {a = a} {es = es} {ts = ts} is = subst (λ b. SaysEvents style T a es ts b) (sym is) said.says_lost

  -- a value without parts
  pub leaf_said : {a b : VisitorPlace} (v : Tree) → (a ≢ place.Name) × (b ≡ a) → (ts : List Token)
      → AreTokensOf (LeafSays v) ts → SaysEvents style T a (leaf v ∷ []) ts b
  leaf_said {a = place.Name} v is ts t = absurd (is.0 refl)
  leaf_said {a = place.Lost} v is ts t =
      subst (λ b. SaysEvents style T place.Lost (leaf v ∷ []) ts b) (sym is.1) said.says_lost
  leaf_said {a = place.Free} v is ts t =
      subst (λ b. SaysEvents style T place.Free (leaf v ∷ []) ts b) (sym is.1)
      (subst (λ l. SaysEvents style T place.Free (leaf v ∷ []) l place.Free)
      (append-nil (json_tokens t.0) ∙ sym t.2) (said.says_leaf t.0 t.1 said.says_nothing))

  pub raw_said : (s : Option Shape) (b : List ℕ) (ts : List Token)
      → AreTokensOf (SaysContent (content_of style.raw s) b) ts
      → SaysEvents style T place.Free (raw s b ∷ []) ts place.Free
  raw_said s b ts t = subst (λ l. SaysEvents style T place.Free (raw s b ∷ []) l place.Free)
      (append-nil (json_tokens t.0) ∙ sym t.2) (said.says_raw t.0 t.1 said.says_nothing)

  pub map_said : (k : TypeId) {b : Bool} → (k.0 == 8) ≡ false → gives_names k ≡ b
      → SaysEvents style T place.Free (map_begins k ∷ []) (map_opens b ∷ []) place.Free
  map_said k apart is = subst (λ b. SaysEvents style T place.Free (map_begins k ∷ []) (map_opens b ∷ []) place.Free) is
      (said.says_map apart said.says_nothing)

  pub map_end_said : (k : TypeId) {b : Bool} → gives_names k ≡ b
      → SaysEvents style T place.Free (map_ends k ∷ []) (map_closes b ∷ []) place.Free
  map_end_said k is = subst (λ b. SaysEvents style T place.Free (map_ends k ∷ []) (map_closes b ∷ []) place.Free) is
      (said.says_map_end said.says_nothing)

  pub entry_end_said : (k : TypeId) {b : Bool} → gives_names k ≡ b
      → SaysEvents style T place.Free (entry_ends k ∷ []) (entry_closes b) place.Free
  entry_end_said k is = subst (λ b. SaysEvents style T place.Free (entry_ends k ∷ []) (entry_closes b) place.Free) is
      (subst (λ l. SaysEvents style T place.Free (entry_ends k ∷ []) l place.Free)
      (append-nil (entry_closes (gives_names k))) (said.says_entry_end said.says_nothing))

  pub field_said : (types : List Field) (next f : ℕ) (n : List ℕ) → n ≡ name_text (field_name (slice_get types f))
      → (zs : List Token) → AbsentTokens style T types next f zs
      → SaysEvents style T place.Free (present types next f ∷ []) (zs ++ Token.key n ∷ []) place.Free
  field_said types next f n is zs p =
      subst (λ n. SaysEvents style T place.Free (present types next f ∷ []) (zs ++ Token.key n ∷ []) place.Free)
      (sym is) (said.says_field zs p said.says_nothing)

  pub struct_end_said : (types : List Field) (next : ℕ) (zs : List Token)
      → AbsentTokens style T types next (length types) zs
      → SaysEvents style T place.Free (struct_ends types next ∷ []) (zs ++ Token.end_object ∷ []) place.Free
  struct_end_said types next zs p = said.says_struct_end zs p said.says_nothing

-- no bytes are UTF-8
pub empty_utf8 : is_utf8 [] ≡ true
empty_utf8 = is_utf8-from_IsUtf8 [] IsUtf8-nil

-- what two say of a value, if there is one
pub of_two : {A : Type 0} {P Q S : A → Type 0} (o : Option A) → IfSome o P → IfSome o Q
    → ((x : A) → P x → Q x → S x) → IfSome o S
of_two None p q f = tt
of_two (Some x) p q f = f x p q

-- what is said where something was made
pub if_made : {P S : Type 0} (E : Type 0) (made : Bool) → MatchBool made P E → (P → S) → MatchBool made S E
if_made E true p f = f p
if_made E false p f = p
