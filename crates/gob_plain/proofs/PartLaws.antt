-- What is written of the parts that the children of a view give, and what is left to be written.
use Rattle.std.proofs.Common.{◌≡◌, ◌≢◌, ℕ, List, [], ◌∷◌, ◌++◌, ◌∙◌, Some, None, Bool, true, false, not, refl, sym, ap}
use Rattle.std.proofs.Common.{subst, ◌+◌, ◌-◌, ◌^◌, ◌≤◌, min, length, arith}
use Rattle.std.proofs.Common.{append_assoc, Result, Ok}
use Rattle.std.specs.Prelude.{slice_get}
use Rattle.json.specs.Token.{Token}
use Rattle.json.specs.Json.{Json, Items, Members}
use Rattle.json.specs.Json as json
use Rattle.json.specs.Tree.{json_tokens, items_tokens, members_tokens}
use Rattle.json.specs.Written.{Written}
use Rattle.serde_json.specs.Written.{outline}
use Rattle.gob_types.specs.declared.id.TypeId.{TypeId}
use Rattle.gob_types.specs.declared.kind.Field.{Field}
use Rattle.gob_types.specs.Table.{Table, shape_of}
use Rattle.gob_value.specs.Tree.{Tree, Trees, no_tree, tree, Pairs, no_pair, pair, Fields, no_field, field}
use Rattle.gob_value.specs.Tree as Value
use Rattle.gob_tape.specs.declared.kind.ValueKind.{ValueKind}
use Rattle.gob_tape.specs.declared.kind.ValueKind.TheVariants as kind
use Rattle.gob_tape.specs.declared.view.View.{View}
use Rattle.gob_tape.specs.declared.view.Children.{Children}
use Rattle.gob_tape.specs.Seeing.{kind_of, numbers_of, bytes_of, elements, alternating, present, Sees, Gives, gives_one}
use Rattle.gob_tape.specs.Seeing.{GivesNext}
use Rattle.gob_json.specs.Json.{field_name, field_type}
use Rattle.gob_json_writer.specs.WritesJson.{WritesTokens}
use Rattle.std.specs.Fmt.{decimal, signed_decimal}
use Rattle.gob_read.specs.Leaf.{signed_of}
use Rattle.gob_json_writer.proofs.TapeLaws.{NextIs, leaf_seen, signed_unsigned}
use Rattle.gob_plain.specs.declared.style.Style.{Style}
use Rattle.gob_plain.specs.Plain.{behind, nils_of_fields, SaysWith, SayFieldsWith, name_text, key_text}
use Rattle.gob_plain.specs.Filled.{shown, shown_all, shown_pairs, shown_fields, nils_in, nils_of_each_in}
use Rattle.gob_plain.specs.Filled.{nils_of_members_in, nils_of_pairs_in, nils_of_fields_in, SaysInWith, SaysElementsIn}
use Rattle.gob_plain.specs.Filled.{SaysMembersIn, SaysPairsIn, SaysStructIn}
use Rattle.gob_plain.specs.AbsentFields.{AbsentTokens}
use Rattle.gob_plain.specs.OpaqueText.{SaysOpaque, Takes, content_in}
use Rattle.gob_plain.specs.Leaf.{SaysLeaf}
use Rattle.gob_plain.specs.WritesPlain.{WritesSome, AreTokensOf, WritesPlain, WritesNilsOf, AreBehind, Shows}
use Rattle.gob_plain.proofs.NilLaws.{says_as_much, each_as_much, members_as_much, pairs_as_much, fields_as_much}
use Rattle.gob_plain.proofs.NilLaws.{no_element_nils, element_nils, no_member_nils, member_nils, no_entry_nils}
use Rattle.gob_plain.proofs.NilLaws.{entry_nils, no_field_nils, field_nils}
use Rattle.gob_plain.proofs.SomeLaws.{IsLeft, left_begun, left_on, left_end, some_behind, some_then, some_of}
use Rattle.gob_plain.proofs.StyleLaws.{EachIn, MembersIn, PairsIn, FieldsIn, no_element_in, element_in, no_member_in}
use Rattle.gob_plain.proofs.StyleLaws.{member_in, no_entry_in, entry_in, absent_then, absent_last, next_shown, leaf_in}
use Rattle.gob_plain.proofs.StyleLaws.{leaf_nils, nil_nils}
use Rattle.gob_plain.proofs.SomeLaws.{ItemsTokens, MembersTokens, MemberTokens, both_same}

-- ---- nils

-- so many nils of the rest are to come: what is said of those behind them was said of those behind all at first
abbrev pub StillSay : (first now : ℕ → Json → Type 0) → (all rest : ℕ) → Type 0
StillSay first now all rest = (k : ℕ) (j : Json) → now (rest + k) j → first (all + k) j

-- a part was written, and the nils of it are gone past
pub still_on : (first from to : ℕ → Json → Type 0) (all rest part next : ℕ) → rest ≡ part + next
    → StillSay first from all rest → AreBehind part from to → StillSay first to all next
still_on first from to all rest part next e s b = λ k j h.
    s k j (subst (λ n. from n j) (omega (arith, e)) (b (next + k) j h))

pub still_end : (first now : ℕ → Json → Type 0) (all rest : ℕ) → rest ≡ 0 → StillSay first now all rest
    → AreBehind all first now
still_end first now all rest e s = λ k j h. s k j (subst (λ n. now n j) (omega (arith, e)) h)

still_same : (first now : ℕ → Json → Type 0) (all rest next : ℕ) → rest ≡ next → StillSay first now all rest
    → StillSay first now all next
still_same first now all rest next e s = subst (λ n. StillSay first now all n) e s

-- ---- elements

-- these elements are to come, and with what is written of them the tokens are all
pub record ElementsLeft (first from : ℕ → Json → Type 0) (nils : ℕ) (style : Style) (T : Table) (e : TypeId)
    (parts : Children) (old now : Written) (All : List Token → Type 0) : Type 0 where
  pub rest : Trees
  pub gives : Gives parts (elements rest)
  pub left : IsLeft old now (ItemsTokens (EachIn from style T e rest)) All
  pub say : StillSay first from nils (nils_of_each_in style T e rest)

pub elements_begun : {E : Type 0} {u : Unit {0}} {style : Style} {T : Table} {e : TypeId} {parts : Children}
    {old now : Written}
    (N : ℕ → Json → Type 0) (vs : Trees)
    → WritesTokens {E = E} (Ok u) old now (Token.begin_array ∷ []) → Gives parts (elements vs)
    → ElementsLeft N N (nils_of_each_in style T e vs) style T e parts old now
    (AreTokensOf (SaysElementsIn N style T e vs))
elements_begun N vs w g = record {
  rest = vs;
  gives = g;
  left = left_begun w (λ ys h. (json.array h.0, (h.0, refl, h.1), ap (λ (l : List Token). Token.begin_array ∷ l) h.2));
  say = λ k j h. h;
}

pub elements_on : {E : Type 0} {u : Unit {0}} {style : Style} {T : Table} {e : TypeId} {parts others : Children}
    {part : View} {nils : ℕ}
    {old now new : Written} {All : List Token → Type 0}
    (first from to : ℕ → Json → Type 0)
    → ElementsLeft first from nils style T e parts old now All → NextIs parts (Some part) others
    → WritesNilsOf {E = E} (Ok u) now new from to (Shows part) (nils_in style T e) (SaysInWith from style T e)
    → ElementsLeft first to nils style T e others old new All
elements_on {style = style} {T = T} {e = e} {others = others} {part = part} {nils = nils} {old = old} {now = now}
    {new = new} {All = All} first from to l n w =
    by l.rest l.left l.say (n _ l.gives)
  where
    by : (vs : Trees) → IsLeft old now (ItemsTokens (EachIn from style T e vs)) All
        → StillSay first from nils (nils_of_each_in style T e vs)
        → GivesNext others (elements vs) (Some part)
        → ElementsLeft first to nils style T e others old new All
    by no_tree q l h = elim h [ ]
    by (tree v vs) q l (gives_one s g) =
        let passed = w.passed v (None, s) in record {
          rest = vs;
          gives = g;
          left = left_on q (w.written.each v (None, s))
              (λ xs ys p h. (
                json.item p.0 h.0,
                element_in from style T e v vs p.0 h.0 p.1
                    (each_as_much to (behind (nils_in style T e v) from) (content_in style) T e (shown_all style T
                    e vs) h.0
                    (λ k b j. passed k j) h.1),
                both_same p.2 h.2,
              ));
          say = still_on first from to nils (nils_of_each_in style T e (tree v vs)) (nils_in style T e v)
              (nils_of_each_in style T e vs) (element_nils style T e v vs) l passed;
        }

pub elements_end : {E : Type 0} {r : Result (Unit {0}) E} {style : Style} {T : Table} {e : TypeId}
    {parts others : Children} {nils : ℕ}
    {old now new : Written} {All : List Token → Type 0}
    (first from : ℕ → Json → Type 0)
    → ElementsLeft first from nils style T e parts old now All → NextIs parts None others
    → WritesTokens r now new (Token.end_array ∷ []) → WritesSome r old new All
elements_end {r = r} {style = style} {T = T} {e = e} {others = others} {old = old} {now = now} {new = new}
    {All = All} first from l n w =
    by l.rest l.left (n _ l.gives)
  where
    by : (vs : Trees) → IsLeft old now (ItemsTokens (EachIn from style T e vs)) All
        → GivesNext others (elements vs) None → WritesSome r old new All
    by no_tree q h = left_end q w (json.no_items, no_element_in from style T e, refl)
    by (tree v vs) q h = elim h [ ]

pub elements_passed : {style : Style} {T : Table} {e : TypeId} {parts others : Children} {nils : ℕ} {old now : Written}
    {All : List Token → Type 0} (first from : ℕ → Json → Type 0)
    → ElementsLeft first from nils style T e parts old now All → NextIs parts None others → AreBehind nils first from
elements_passed {style = style} {T = T} {e = e} {others = others} {nils = nils} first from l n =
    by l.rest l.say (n _ l.gives)
  where
    by : (vs : Trees) → StillSay first from nils (nils_of_each_in style T e vs) → GivesNext others (elements vs) None
        → AreBehind nils first from
    by no_tree l h = still_end first from nils (nils_of_each_in style T e no_tree) (no_element_nils style T e) l
    by (tree v vs) l h = elim h [ ]

-- ---- fields

-- these fields are to come, behind the absent ones from this number on
pub record FieldsLeft (first say : ℕ → Json → Type 0) (nils : ℕ) (style : Style) (T : Table) (types : List Field)
    (from : ℕ) (parts : Children) (old now : Written) (All : List Token → Type 0) : Type 0 where
  pub rest : Fields
  pub gives : Gives parts (present rest)
  pub left : IsLeft old now (MembersTokens (FieldsIn say style T types from rest)) All
  pub still : StillSay first say nils (nils_of_fields_in style T types from rest)

-- the name and the value of a field
abbrev pub FieldTokens : (ℕ → Json → Type 0) → Style → Table → List Field → ℕ → Tree → List Token → Type 0
FieldTokens N style T types f v = MemberTokens (name_text (field_name (slice_get types f)))
    (SaysInWith N style T (field_type (slice_get types f)) v)

pub fields_begun : {E : Type 0} {u : Unit {0}} {style : Style} {T : Table} {types : List Field} {parts : Children}
    {old now : Written} (N : ℕ → Json → Type 0) (fs : Fields)
    → WritesTokens {E = E} (Ok u) old now (Token.begin_object ∷ []) → Gives parts (present fs)
    → FieldsLeft N N (nils_of_fields_in style T types 0 fs) style T types 0 parts old now
    (AreTokensOf (SaysStructIn N style T types fs))
fields_begun N fs w g = record {
  rest = fs;
  gives = g;
  left = left_begun w (λ ys h. (
    json.object h.0,
    (h.0, refl, h.1),
    ap (λ
        (l : List Token). Token.begin_object ∷ l) h.2,
  ));
  still = λ k j h. h;
}

-- the absent fields before a field, and the field
abbrev AbsentThen : (ℕ → Json → Type 0) → Style → Table → List Field → (from f : ℕ) → Tree → List Token → Type 0
AbsentThen N style T types from f v ts = (xs : List Token) × (ys : List Token) × AbsentTokens style T types from f xs
    × FieldTokens N style T types f v ys × (ts ≡ xs ++ ys)

pub fields_on : {E F : Type 0} {u v : Unit {0}} {style : Style} {T : Table} {types : List Field} {from next : ℕ}
    {parts others : Children} {part : View} {nils : ℕ} {old now mid new : Written} {All : List Token → Type 0}
    (first say to : ℕ → Json → Type 0)
    → length types ≤ 2 ^ 64 - 1
    → FieldsLeft first say nils style T types from parts old now All → NextIs parts (Some part) others
    → ((f : ℕ) (x : Tree) → Sees part (Some f) x → (next ≡ min (f + 1) (2 ^ 64 - 1))
    × WritesSome {E = E} (Ok u) now mid (AbsentTokens style T types from f)
    × WritesSome {E = F} (Ok v) mid new (FieldTokens say style T types f x)
    × AreBehind (nils_in style T (field_type (slice_get types f)) x) say to)
    → FieldsLeft first to nils style T types next others old new All
fields_on {style = style} {T = T} {types = types} {from = from} {next = next} {others = others} {part = part}
    {nils = nils} {old = old}
    {now = now} {new = new} {All = All} first say to small l n w = by l.rest l.left l.still (n _ l.gives)
  where
    by : (fs : Fields) → IsLeft old now (MembersTokens (FieldsIn say style T types from fs)) All
        → StillSay first say nils (nils_of_fields_in style T types from fs)
        → GivesNext others (present fs) (Some part) → FieldsLeft first to nils style T types next others old new All
    by no_field q l h = elim h [ ]
    by (field f x fs) q l (gives_one s g) =
        let is = w f x s in
        let t = field_type (slice_get types f) in
        let same = next_shown style T types f next fs small is.0 in record {
          rest = fs;
          gives = g;
          left = subst (λ (gs : Fields). IsLeft old new (MembersTokens (λ ms. SayFieldsWith to (content_in style) T
              types gs
              ms)) All)
              (sym same)
              (left_on {Next = MembersTokens (FieldsIn to style T types (f + 1) fs)} q
              (some_then {R = AbsentThen say style T types from f x} is.1 is.2 (λ xs ys p q. (xs, ys, p, q, refl)))
              (λ xs ys p h.
              let all = absent_then say style T types from f x fs p.3.0 h.0 p.0 p.2 p.3.1
              (fields_as_much to (behind (nils_in style T t x) say) (content_in style) T types
              (shown_fields style T types (f + 1) fs) h.0 (λ k b j. is.3 k j) h.1) in (
                all.0,
                all.1,
                ap (λ (l : List Token). l ++ ys) p.4 ∙ append_assoc p.0 p.1 ys
                    ∙ ap (λ (l : List Token). p.0 ++ l) (both_same p.3.2 h.2) ∙ all.2,
              )));
          still = still_same first to nils (nils_of_fields_in style T types (f + 1) fs)
              (nils_of_fields_in style T types next fs)
              (ap (λ (gs : Fields). nils_of_fields T types gs) (sym same))
              (still_on first say to nils (nils_of_fields_in style T types from (field f x fs)) (nils_in style T t x)
              (nils_of_fields_in style T types (f + 1) fs) (field_nils style T types from f x fs) l is.3);
        }

pub fields_end : {E F : Type 0} {u : Unit {0}} {r : Result (Unit {0}) E} {style : Style} {T : Table}
    {types : List Field} {from : ℕ} {parts others : Children} {nils : ℕ} {old now mid new : Written}
    {All : List Token → Type 0} (first say : ℕ → Json → Type 0)
    → FieldsLeft first say nils style T types from parts old now All → NextIs parts None others
    → WritesSome {E = F} (Ok u) now mid (AbsentTokens style T types from (length types))
    → WritesTokens r mid new (Token.end_object ∷ []) → WritesSome r old new All
fields_end {r = r} {style = style} {T = T} {types = types} {from = from} {others = others} {old = old} {now = now}
    {new = new} {All = All} first say l n a w = by l.rest l.left (n _ l.gives)
  where
    by : (fs : Fields) → IsLeft old now (MembersTokens (FieldsIn say style T types from fs)) All
        → GivesNext others (present fs) None → WritesSome r old new All
    by no_field q h =
        left_end (left_on {Next = λ ys. ys ≡ Token.end_object ∷ []} q a
        (λ xs ys p e.
        let all = absent_last say style T types from xs p in
        (all.0, all.1, ap (λ (l : List Token). xs ++ l) e ∙ all.2)))
        w refl
    by (field f v fs) q h = elim h [ ]

pub fields_passed : {style : Style} {T : Table} {types : List Field} {from : ℕ} {parts others : Children} {nils : ℕ}
    {old now : Written} {All : List Token → Type 0} (first say : ℕ → Json → Type 0)
    → FieldsLeft first say nils style T types from parts old now All → NextIs parts None others
    → AreBehind nils first say
fields_passed {style = style} {T = T} {types = types} {from = from} {others = others} {nils = nils} first say l n =
    by l.rest l.still (n _ l.gives)
  where
    by : (fs : Fields) → StillSay first say nils (nils_of_fields_in style T types from fs)
        → GivesNext others (present fs) None → AreBehind nils first say
    by no_field l h =
        still_end first say nils (nils_of_fields_in style T types from no_field) (no_field_nils style T types from) l
    by (field f v fs) l h = elim h [ ]

-- the name, and then the value, of a field or an entry
pub member_some : {E F : Type 0} {u : Unit {0}} {r : Result (Unit {0}) F} {old mid new : Written} {name : List ℕ}
    {P : Json → Type 0}
    → WritesTokens {E = E} (Ok u) old mid (Token.key name ∷ []) → WritesPlain r mid new P
    → WritesSome r old new (MemberTokens name P)
member_some {name = name} v w = some_behind v w (λ ys q. (q.0, q.1, ap (λ (l : List Token). Token.key name ∷ l) q.2))

-- a field whose name and type were looked up
pub field_some : {E F : Type 0} {u : Unit {0}} {r : Result (Unit {0}) F} {old mid new : Written}
    (N : ℕ → Json → Type 0) (style : Style)
    (T : Table)
    (types : List Field) (v : Tree)
    {f n : ℕ} {name : List ℕ} {e : TypeId} → n ≡ f → name ≡ field_name (slice_get types n)
    → e ≡ field_type (slice_get types n)
    → WritesTokens {E = E} (Ok u) old mid (Token.key (name_text name) ∷ [])
    → WritesPlain r mid new (SaysInWith N style T e v)
    → WritesSome r old new (FieldTokens N style T types f v)
field_some {r = r} {old = old} {new = new} N style T types v {n = n} {e = e} is named typed w x =
    subst (λ f. WritesSome r old new (FieldTokens N style T types f v)) is
    (subst (λ e. WritesSome r old new (MemberTokens (name_text (field_name (slice_get types n)))
    (SaysInWith N style T e v))) typed
    (subst (λ l. WritesSome r old new (MemberTokens (name_text l) (SaysInWith N style T e v))) named
    (member_some w x)))

-- the nils of such a field are gone past
pub field_passed : (from to : ℕ → Json → Type 0) (style : Style) (T : Table) (types : List Field) (v : Tree)
    {f n : ℕ} {e : TypeId} → n ≡ f → e ≡ field_type (slice_get types n)
    → AreBehind (nils_in style T e v) from to
    → AreBehind (nils_in style T (field_type (slice_get types f)) v) from to
field_passed from to style T types v {n = n} is typed b =
    subst (λ f. AreBehind (nils_in style T (field_type (slice_get types f)) v) from to) is
    (subst (λ e. AreBehind (nils_in style T e v) from to) typed b)

-- ---- entries of an object

-- the tokens of a value, and of the members behind it
abbrev pub ValueTokens : (ℕ → Json → Type 0) → Style → Table → TypeId → TypeId → Tree → Pairs → List Token → Type 0
ValueTokens N style T k e v ps ts = (j : Json) × (ms : Members)
    × (SaysInWith N style T e v j × MembersIn (behind (nils_in style T e v) N) style T k e ps ms)
    × (ts ≡ json_tokens j ++ members_tokens ms)

-- the value of a name that was written, and then these entries, are to come; or these entries
pub data MembersLeft (first from : ℕ → Json → Type 0) (nils : ℕ) (style : Style) (T : Table) (k e : TypeId)
    (parts : Children) (old now : Written) (All : List Token → Type 0) : Bool
    → Type 0 where
  name_next : (ps : Pairs) → Gives parts (alternating ps) → IsLeft old now (MembersTokens
      (MembersIn from style T k e ps)) All
      → StillSay first from nils (nils_of_members_in style T k e ps)
      → MembersLeft first from nils style T k e parts old now All true
  value_next : (v : Tree) (ps : Pairs) → Gives parts ((None, v) ∷ alternating ps)
      → IsLeft old now (ValueTokens from style T k e v ps) All
      → StillSay first from nils (nils_in style T e v + nils_of_members_in style T k e ps)
      → MembersLeft first from nils style T k e parts old now All false

pub members_begun : {E : Type 0} {u : Unit {0}} {style : Style} {T : Table} {k e : TypeId} {parts : Children}
    {old now : Written}
    (N : ℕ → Json → Type 0) (ps : Pairs)
    → WritesTokens {E = E} (Ok u) old now (Token.begin_object ∷ []) → Gives parts (alternating ps)
    → MembersLeft N N (nils_of_members_in style T k e ps) style T k e parts old now
    (AreTokensOf (SaysMembersIn N style T k e ps)) true
members_begun N ps w g = name_next ps g
    (left_begun w (λ ys h. (json.object h.0, (h.0, refl, h.1), ap (λ (l : List Token). Token.begin_object ∷ l) h.2)))
    (λ k j h. h)

module _ {E : Type 0} {u : Unit {0}} {style : Style} {T : Table} {k e : TypeId} {parts others : Children} {part : View}
    {nils : ℕ} {old now new : Written} {All : List Token → Type 0} where
  name_on : (first from : ℕ → Json → Type 0)
      → MembersLeft first from nils style T k e parts old now All true → NextIs parts (Some part) others
      → ((v : Tree) → Shows part v → WritesTokens {E = E} (Ok u) now new (Token.key (key_text v) ∷ []))
      → MembersLeft first from nils style T k e others old new All false
  name_on first from (name_next ps g q l) n w = by ps q l (n _ g)
    where
      by : (ps : Pairs) → IsLeft old now (MembersTokens (MembersIn from style T k e ps)) All
          → StillSay first from nils (nils_of_members_in style T k e ps)
          → GivesNext others (alternating ps) (Some part)
          → MembersLeft first from nils style T k e others old new All false
      by no_pair q l h = elim h [ ]
      by (pair x v ps) q l (gives_one s g) =
          let name = Token.key (key_text x) in
          value_next v ps g (record {
            each = λ ys h.
                let t = q.each (name ∷ ys) (
                  json.member (key_text x) h.0 h.1,
                  member_in from style T k e x v ps h.0 h.1 h.2.0 h.2.1,
                  ap (λ (l : List Token). name ∷ l) h.3,
                ) in (
                  t.0,
                  t.1,
                  ap (λ (l : List Token). l ++ ys) (w x (None, s)).tokens
                      ∙ append_assoc now.tokens (name ∷ []) ys ∙ t.2,
                );
            before = (w x (None, s)).before ∙ q.before;
          })
          (still_same first from nils (nils_of_members_in style T k e (pair x v ps))
          (nils_in style T e v + nils_of_members_in style T k e ps) (member_nils style T k e x v ps) l)

  value_on : (first from to : ℕ → Json → Type 0)
      → MembersLeft first from nils style T k e parts old now All false → NextIs parts (Some part) others
      → WritesNilsOf {E = E} (Ok u) now new from to (Shows part) (nils_in style T e) (SaysInWith from style T e)
      → MembersLeft first to nils style T k e others old new All true
  value_on first from to (value_next v ps g q l) n w = by (n _ g)
    where
      by : GivesNext others ((None, v) ∷ alternating ps) (Some part)
          → MembersLeft first to nils style T k e others old new All true
      by (gives_one s h) =
          let passed = w.passed v (None, s) in
          name_next ps h (left_on q (w.written.each v (None, s))
          (λ xs ys p h. (
            p.0,
            h.0,
            (
              p.1,
              members_as_much to (behind (nils_in style T e v) from) (content_in style) T e (shown_pairs style T k
                  e ps) h.0
                  (λ k b j. passed k j) h.1,
            ),
            both_same p.2 h.2,
          )))
          (still_on first from to nils (nils_in style T e v + nils_of_members_in style T k e ps) (nils_in style T e v)
          (nils_of_members_in style T k e ps) refl l passed)

  -- a name, and a value, was written
  pub name_turn : (first from : ℕ → Json → Type 0) {is_key : Bool} {out : Written} → out ≡ new → is_key ≡ true
      → MembersLeft first from nils style T k e parts old now All is_key → NextIs parts (Some part) others
      → ((v : Tree) → Shows part v → WritesTokens {E = E} (Ok u) now new (Token.key (key_text v) ∷ []))
      → MembersLeft first from nils style T k e others old out All (not is_key)
  name_turn first from {is_key = is_key} is h l n w =
      subst (λ o. MembersLeft first from nils style T k e others old o All (not is_key)) (sym is)
      (subst (λ x. MembersLeft first from nils style T k e others old new All (not x)) (sym h)
      (name_on first from (subst (λ x. MembersLeft first from nils style T k e parts old now All x) h l) n w))

  pub value_turn : (first from to : ℕ → Json → Type 0) {is_key : Bool} {out : Written} → out ≡ new → is_key ≡ false
      → MembersLeft first from nils style T k e parts old now All is_key → NextIs parts (Some part) others
      → WritesNilsOf {E = E} (Ok u) now new from to (Shows part) (nils_in style T e) (SaysInWith from style T e)
      → MembersLeft first to nils style T k e others old out All (not is_key)
  value_turn first from to {is_key = is_key} is h l n w =
      subst (λ o. MembersLeft first to nils style T k e others old o All (not is_key)) (sym is)
      (subst (λ x. MembersLeft first to nils style T k e others old new All (not x)) (sym h)
      (value_on first from to (subst (λ x. MembersLeft first from nils style T k e parts old now All x) h l) n w))

-- what is to come says what it said
pub members_say : {A : Type 0} {a b : A} {style : Style} {T : Table} {k e : TypeId} {parts : Children} {nils : ℕ}
    {old now : Written} {All : List Token → Type 0} {is_key : Bool}
    (says : A → ℕ → Json → Type 0) (first : ℕ → Json → Type 0) → a ≡ b
    → MembersLeft first (says b) nils style T k e parts old now All is_key
    → MembersLeft first (says a) nils style T k e parts old now All is_key
members_say {style = style} {T = T} {k = k} {e = e} {parts = parts} {nils = nils} {old = old} {now = now} {All = All}
    {is_key = is_key} says first is l =
    subst (λ n. MembersLeft first (says n) nils style T k e parts old now All is_key) (sym is) l

pub members_end : {E : Type 0} {r : Result (Unit {0}) E} {style : Style} {T : Table} {k e : TypeId}
    {parts others : Children} {nils : ℕ}
    {old now new : Written} {All : List Token → Type 0} {is_key : Bool}
    (first from : ℕ → Json → Type 0)
    → MembersLeft first from nils style T k e parts old now All is_key → NextIs parts None others
    → WritesTokens r now new (Token.end_object ∷ []) → WritesSome r old new All
members_end {r = r} {style = style} {T = T} {k = k} {e = e} {others = others} {old = old} {now = now} {new = new}
    {All = All} first from (name_next ps g q l)
    n w = by ps q (n _ g)
  where
    by : (ps : Pairs) → IsLeft old now (MembersTokens (MembersIn from style T k e ps)) All → GivesNext others
        (alternating ps) None
        → WritesSome r old new All
    by no_pair q h = left_end q w (json.no_members, no_member_in from style T k e, refl)
    by (pair x v ps) q h = elim h [ ]
members_end {r = r} {others = others} {old = old} {new = new} {All = All} first from (value_next v ps g q l) n w =
    by (n _ g)
  where
    by : GivesNext others ((None, v) ∷ alternating ps) None → WritesSome r old new All
    by h = elim h [ ]

pub members_passed : {style : Style} {T : Table} {k e : TypeId} {parts others : Children} {nils : ℕ} {old now : Written}
    {All : List Token → Type 0} {is_key : Bool} (first from : ℕ → Json → Type 0)
    → MembersLeft first from nils style T k e parts old now All is_key → NextIs parts None others
    → AreBehind nils first from
members_passed {style = style} {T = T} {k = k} {e = e} {others = others} {nils = nils} first from
    (name_next ps g q l) n = by ps l (n _ g)
  where
    by : (ps : Pairs) → StillSay first from nils (nils_of_members_in style T k e ps)
        → GivesNext others (alternating ps) None → AreBehind nils first from
    by no_pair l h = still_end first from nils (nils_of_members_in style T k e no_pair) (no_member_nils style T k e) l
    by (pair x v ps) l h = elim h [ ]
members_passed {others = others} {nils = nils} first from (value_next v ps g q l) n = by (n _ g)
  where
    by : GivesNext others ((None, v) ∷ alternating ps) None → AreBehind nils first from
    by h = elim h [ ]

-- ---- entries of an array

-- the tokens of an element, of its bracket, and of the entries behind it
abbrev pub ElementTokens : (ℕ → Json → Type 0) → Style → Table → TypeId → TypeId → Tree → Pairs → List Token → Type 0
ElementTokens N style T k e v ps ts = (b : Json) × (js : Items)
    × (SaysInWith N style T e v b × PairsIn (behind (nils_in style T e v) N) style T k e ps js)
    × (ts ≡ (json_tokens b ++ Token.end_array ∷ []) ++ items_tokens js)

-- the element of a key that was written, and then these entries, are to come; or these entries
pub data PairsLeft (first from : ℕ → Json → Type 0) (nils : ℕ) (style : Style) (T : Table) (k e : TypeId)
    (parts : Children) (old now : Written) (All : List Token → Type 0) : Bool
    → Type 0 where
  key_next : (ps : Pairs) → Gives parts (alternating ps)
      → IsLeft old now (ItemsTokens (PairsIn from style T k e ps)) All
      → StillSay first from nils (nils_of_pairs_in style T k e ps)
      → PairsLeft first from nils style T k e parts old now All true
  element_next : (v : Tree) (ps : Pairs) → Gives parts ((None, v) ∷ alternating ps)
      → IsLeft old now (ElementTokens from style T k e v ps) All
      → StillSay first from nils (nils_in style T e v + nils_of_pairs_in style T k e ps)
      → PairsLeft first from nils style T k e parts old now All false

pub pairs_begun : {E : Type 0} {u : Unit {0}} {style : Style} {T : Table} {k e : TypeId} {parts : Children}
    {old now : Written}
    (N : ℕ → Json → Type 0) (ps : Pairs)
    → WritesTokens {E = E} (Ok u) old now (Token.begin_array ∷ []) → Gives parts (alternating ps)
    → PairsLeft N N (nils_of_pairs_in style T k e ps) style T k e parts old now
    (AreTokensOf (SaysPairsIn N style T k e ps)) true
pairs_begun N ps w g = key_next ps g
    (left_begun w (λ ys h. (json.array h.0, (h.0, refl, h.1), ap (λ (l : List Token). Token.begin_array ∷ l) h.2)))
    (λ k j h. h)

module _ {E : Type 0} {u : Unit {0}} {style : Style} {T : Table} {k e : TypeId} {parts others : Children} {part : View}
    {nils : ℕ} {old now mid new : Written} {All : List Token → Type 0} where
  key_on : (first from to : ℕ → Json → Type 0)
      → PairsLeft first from nils style T k e parts old now All true → NextIs parts (Some part) others
      → WritesTokens {E = E} (Ok u) now mid (Token.begin_array ∷ [])
      → WritesNilsOf {E = E} (Ok u) mid new from to (Shows part) (nils_in style T k) (SaysInWith from style T k)
      → PairsLeft first to nils style T k e others old new All false
  key_on first from to (key_next ps g q l) n b w = by ps q l (n _ g)
    where
      by : (ps : Pairs) → IsLeft old now (ItemsTokens (PairsIn from style T k e ps)) All
          → StillSay first from nils (nils_of_pairs_in style T k e ps)
          → GivesNext others (alternating ps) (Some part)
          → PairsLeft first to nils style T k e others old new All false
      by no_pair q l h = elim h [ ]
      by (pair x v ps) q l (gives_one s g) =
          let passed = w.passed x (None, s) in
          let keys = nils_in style T k x in
          let elements = nils_in style T e v in
          element_next v ps g
          (left_on {P = λ ts. (a : Json) × SaysInWith from style T k x a × (ts ≡ Token.begin_array ∷ json_tokens a)} q
          (some_behind b (w.written.each x (None, s))
          (λ ys p. (p.0, p.1, ap (λ (l : List Token). Token.begin_array ∷ l) p.2)))
          (λ xs ys p h.
          let one = json.array (json.item p.0 (json.item h.0 json.no_items)) in
          let last = json_tokens h.0 ++ Token.end_array ∷ [] in (
            json.item one h.1,
            entry_in from style T k e x v ps one h.1 (
              p.0,
              h.0,
              refl,
              p.1,
              says_as_much to (behind keys from) (content_in style) T e (shown style T e v) h.0 (λ k b j. passed k
                  j) h.2.0,
            )
                (pairs_as_much (behind elements to) (behind elements (behind keys from)) (content_in style) T k e
                (shown_pairs style T k e ps) h.1 (λ k b j. passed (elements + k) j) h.2.1),
            both_same p.2 h.3
                ∙ ap (λ (l : List Token). Token.begin_array ∷ l)
                (sym (append_assoc (json_tokens p.0) last (items_tokens h.1))),
          )))
          (still_on first from to nils (nils_of_pairs_in style T k e (pair x v ps)) keys
          (elements + nils_of_pairs_in style T k e ps) (entry_nils style T k e x v ps) l passed)

  element_on : (first from to : ℕ → Json → Type 0)
      → PairsLeft first from nils style T k e parts old now All false → NextIs parts (Some part) others
      → WritesNilsOf {E = E} (Ok u) now mid from to (Shows part) (nils_in style T e) (SaysInWith from style T e)
      → WritesTokens {E = E} (Ok u) mid new (Token.end_array ∷ [])
      → PairsLeft first to nils style T k e others old new All true
  element_on first from to (element_next v ps g q l) n w d = by (n _ g)
    where
      by : GivesNext others ((None, v) ∷ alternating ps) (Some part)
          → PairsLeft first to nils style T k e others old new All true
      by (gives_one s h) =
          let passed = w.passed v (None, s) in
          key_next ps h
          (left_on {P = λ ts. (b : Json) × SaysInWith from style T e v b
          × (ts ≡ json_tokens b ++ Token.end_array ∷ [])} q
          (some_then (w.written.each v (None, s)) (some_of {P = λ ts. ts ≡ Token.end_array ∷ []} d refl)
          (λ xs ys p f. (p.0, p.1, both_same p.2 f)))
          (λ xs ys p h. (
            p.0,
            h.0,
            (
              p.1,
              pairs_as_much to (behind (nils_in style T e v) from) (content_in style) T k e (shown_pairs style T k
                  e ps) h.0
                  (λ k b j. passed k j) h.1,
            ),
            both_same p.2 h.2,
          )))
          (still_on first from to nils (nils_in style T e v + nils_of_pairs_in style T k e ps) (nils_in style T e v)
          (nils_of_pairs_in style T k e ps) refl l passed)

  -- a key, and an element, was written
  pub key_turn : (first from to : ℕ → Json → Type 0) {is_key : Bool} {out : Written} → out ≡ new → is_key ≡ true
      → PairsLeft first from nils style T k e parts old now All is_key → NextIs parts (Some part) others
      → WritesTokens {E = E} (Ok u) now mid (Token.begin_array ∷ [])
      → WritesNilsOf {E = E} (Ok u) mid new from to (Shows part) (nils_in style T k) (SaysInWith from style T k)
      → PairsLeft first to nils style T k e others old out All (not is_key)
  key_turn first from to {is_key = is_key} is h l n b w =
      subst (λ o. PairsLeft first to nils style T k e others old o All (not is_key)) (sym is)
      (subst (λ x. PairsLeft first to nils style T k e others old new All (not x)) (sym h)
      (key_on first from to (subst (λ x. PairsLeft first from nils style T k e parts old now All x) h l) n b w))

  pub element_turn : (first from to : ℕ → Json → Type 0) {is_key : Bool} {out : Written} → out ≡ new
      → is_key ≡ false
      → PairsLeft first from nils style T k e parts old now All is_key → NextIs parts (Some part) others
      → WritesNilsOf {E = E} (Ok u) now mid from to (Shows part) (nils_in style T e) (SaysInWith from style T e)
      → WritesTokens {E = E} (Ok u) mid new (Token.end_array ∷ [])
      → PairsLeft first to nils style T k e others old out All (not is_key)
  element_turn first from to {is_key = is_key} is h l n w d =
      subst (λ o. PairsLeft first to nils style T k e others old o All (not is_key)) (sym is)
      (subst (λ x. PairsLeft first to nils style T k e others old new All (not x)) (sym h)
      (element_on first from to (subst (λ x. PairsLeft first from nils style T k e parts old now All x) h l) n w d))

-- what is to come says what it said
pub pairs_say : {A : Type 0} {a b : A} {style : Style} {T : Table} {k e : TypeId} {parts : Children} {nils : ℕ}
    {old now : Written} {All : List Token → Type 0} {is_key : Bool}
    (says : A → ℕ → Json → Type 0) (first : ℕ → Json → Type 0) → a ≡ b
    → PairsLeft first (says b) nils style T k e parts old now All is_key
    → PairsLeft first (says a) nils style T k e parts old now All is_key
pairs_say {style = style} {T = T} {k = k} {e = e} {parts = parts} {nils = nils} {old = old} {now = now} {All = All}
    {is_key = is_key} says first is l =
    subst (λ n. PairsLeft first (says n) nils style T k e parts old now All is_key) (sym is) l

pub pairs_end : {E : Type 0} {r : Result (Unit {0}) E} {style : Style} {T : Table} {k e : TypeId}
    {parts others : Children} {nils : ℕ}
    {old now new : Written} {All : List Token → Type 0} {is_key : Bool}
    (first from : ℕ → Json → Type 0)
    → PairsLeft first from nils style T k e parts old now All is_key → NextIs parts None others
    → WritesTokens r now new (Token.end_array ∷ []) → WritesSome r old new All
pairs_end {r = r} {style = style} {T = T} {k = k} {e = e} {others = others} {old = old} {now = now} {new = new}
    {All = All} first from
    (key_next ps g q l) n w = by ps q (n _ g)
  where
    by : (ps : Pairs) → IsLeft old now (ItemsTokens (PairsIn from style T k e ps)) All → GivesNext others
        (alternating ps) None
        → WritesSome r old new All
    by no_pair q h = left_end q w (json.no_items, no_entry_in from style T k e, refl)
    by (pair x v ps) q h = elim h [ ]
pairs_end {r = r} {others = others} {old = old} {new = new} {All = All} first from (element_next v ps g q l) n w =
    by (n _ g)
  where
    by : GivesNext others ((None, v) ∷ alternating ps) None → WritesSome r old new All
    by h = elim h [ ]

pub pairs_passed : {style : Style} {T : Table} {k e : TypeId} {parts others : Children} {nils : ℕ} {old now : Written}
    {All : List Token → Type 0} {is_key : Bool} (first from : ℕ → Json → Type 0)
    → PairsLeft first from nils style T k e parts old now All is_key → NextIs parts None others
    → AreBehind nils first from
pairs_passed {style = style} {T = T} {k = k} {e = e} {others = others} {nils = nils} first from
    (key_next ps g q l) n = by ps l (n _ g)
  where
    by : (ps : Pairs) → StillSay first from nils (nils_of_pairs_in style T k e ps)
        → GivesNext others (alternating ps) None → AreBehind nils first from
    by no_pair l h = still_end first from nils (nils_of_pairs_in style T k e no_pair) (no_entry_nils style T k e) l
    by (pair x v ps) l h = elim h [ ]
pairs_passed {others = others} {nils = nils} first from (element_next v ps g q l) n = by (n _ g)
  where
    by : GivesNext others ((None, v) ∷ alternating ps) None → AreBehind nils first from
    by h = elim h [ ]

-- ---- parts without parts

leaf_is : (N : ℕ → Json → Type 0) (how : Takes) (T : Table) (t : TypeId) (v : Tree) → (kind_of v ≢ kind.Many)
    → (kind_of v ≢ kind.Pairs) → (kind_of v ≢ kind.Fields) → (kind_of v ≢ kind.Opaque) → (kind_of v ≢ kind.Nil)
    → (j : Json) → SaysLeaf (kind_of v) (numbers_of v).0 (numbers_of v).1 (bytes_of v) j → SaysWith N how T t v j
leaf_is N how T t (Value.float x) m p f o n j h = h
leaf_is N how T t (Value.complex x y) m p f o n j h = h
leaf_is N how T t (Value.opaque b) m p f o n j h = absurd (o refl)
leaf_is N how T t (Value.many vs) m p f o n j h = absurd (m refl)
leaf_is N how T t (Value.pairs ps) m p f o n j h = absurd (p refl)
leaf_is N how T t (Value.fields fs) m p f o n j h = absurd (f refl)
leaf_is N how T t (Value.bool x) m p f o n j h = h ∙ ap outline (leaf_seen T t
    (Value.bool x) _ _ _ refl refl refl m p f)
leaf_is N how T t (Value.int i) m p f o n j h = h ∙ ap outline (leaf_seen T t (Value.int i) _ _ _ refl refl refl m p f)
leaf_is N how T t (Value.uint x) m p f o n j h = h
leaf_is N how T t (Value.bytes b) m p f o n j h = h
leaf_is N how T t (Value.text b) m p f o n j h = h
leaf_is N how T t Value.nil m p f o n j h = absurd (n refl)

-- what a view shows of a part without parts
pub leaf_says : (N : ℕ → Json → Type 0) (style : Style) (T : Table) (t : TypeId) (v : Tree) (k : ValueKind) (n : ℕ × ℕ)
    (s : List ℕ) → k ≡ kind_of v
    → n ≡ numbers_of v → s ≡ bytes_of v
    → (k ≢ kind.Many) → (k ≢ kind.Pairs) → (k ≢ kind.Fields) → (k ≢ kind.Opaque) → (k ≢ kind.Nil)
    → (j : Json) → SaysLeaf k n.0 n.1 s j → SaysInWith N style T t v j
leaf_says N style T t v k n s e q r m p f o z j h =
    leaf_in N style T t v j (λ g. m (e ∙ g)) (λ g. p (e ∙ g)) (λ g. f (e ∙ g))
    (leaf_is N (content_in style) T t v (λ g. m (e ∙ g)) (λ g. p (e ∙ g)) (λ g. f (e ∙ g)) (λ g. o (e ∙ g)) (λ g. z
    (e ∙ g)) j
    (subst (λ b. SaysLeaf (kind_of v) (numbers_of v).0 (numbers_of v).1 b j) r
    (subst (λ n. SaysLeaf (kind_of v) n.0 n.1 s j) q
    (subst (λ k. SaysLeaf k n.0 n.1 s j) e h))))

-- its nils are gone past
pub leaf_passed : (N : ℕ → Json → Type 0) (style : Style) (T : Table) (t : TypeId) (v : Tree) (k : ValueKind)
    → k ≡ kind_of v → (k ≢ kind.Many) → (k ≢ kind.Pairs) → (k ≢ kind.Fields) → (k ≢ kind.Nil)
    → AreBehind (nils_in style T t v) N N
leaf_passed N style T t v k e m p f z = λ i j h.
    subst (λ n. N (n + i) j)
    (sym (leaf_nils style T t v (λ g. m (e ∙ g)) (λ g. p (e ∙ g)) (λ g. f (e ∙ g)) (λ g. z (e ∙ g))))
    (subst (λ n. N n j) (omega arith) h)

-- a nil
pub nil_says : (N : ℕ → Json → Type 0) (style : Style) (T : Table) (t : TypeId) (v : Tree) (j : Json)
    → kind.Nil ≡ kind_of v → N 0 j → SaysInWith N style T t v j
nil_says N style T t Value.nil j k h =
    leaf_in N style T t Value.nil j (λ f. cc) (λ f. cc) (λ f. cc) h
nil_says N style T t (Value.opaque b) j k h = cc
nil_says N style T t (Value.bool x) j k h = cc
nil_says N style T t (Value.int i) j k h = cc
nil_says N style T t (Value.uint n) j k h = cc
nil_says N style T t (Value.float x) j k h = cc
nil_says N style T t (Value.complex x y) j k h = cc
nil_says N style T t (Value.bytes x) j k h = cc
nil_says N style T t (Value.text b) j k h = cc
nil_says N style T t (Value.many vs) j k h = cc
nil_says N style T t (Value.pairs ps) j k h = cc
nil_says N style T t (Value.fields fs) j k h = cc

pub nil_passed : (from to : ℕ → Json → Type 0) (style : Style) (T : Table) (t : TypeId) (v : Tree)
    → kind.Nil ≡ kind_of v → AreBehind 1 from to → AreBehind (nils_in style T t v) from to
nil_passed from to style T t v k b = subst (λ n. AreBehind n from to) (sym (nil_nils style T t v k)) b

-- an opaque value
pub opaque_says : (N : ℕ → Json → Type 0) (style : Style) (T : Table) (t : TypeId) (v : Tree) (b : List ℕ) (j : Json)
    → kind.Opaque ≡ kind_of v
    → b ≡ bytes_of v → SaysOpaque (content_in style) t (shape_of T t) b j → SaysInWith N style T t v j
opaque_says N style T t (Value.opaque x) b j k e s =
    leaf_in N style T t (Value.opaque x) j (λ f. cc) (λ f. cc) (λ f. cc)
    (subst (λ (b : List ℕ). SaysOpaque (content_in style) t (shape_of T t) b j) e s)
opaque_says N style T t (Value.bool x) b j k e s = cc
opaque_says N style T t (Value.int i) b j k e s = cc
opaque_says N style T t (Value.uint n) b j k e s = cc
opaque_says N style T t (Value.float x) b j k e s = cc
opaque_says N style T t (Value.complex x y) b j k e s = cc
opaque_says N style T t (Value.bytes x) b j k e s = cc
opaque_says N style T t (Value.text x) b j k e s = cc
opaque_says N style T t Value.nil b j k e s = cc
opaque_says N style T t (Value.many vs) b j k e s = cc
opaque_says N style T t (Value.pairs ps) b j k e s = cc
opaque_says N style T t (Value.fields fs) b j k e s = cc

-- ---- keys that are names

abbrev pub KeyIs : Tree → ValueKind → Type 0
KeyIs v kind.Str = key_text v ≡ name_text (bytes_of v)
KeyIs v kind.Int = key_text v ≡ signed_decimal (signed_of (numbers_of v).0)
KeyIs v kind.Uint = key_text v ≡ decimal (numbers_of v).0
KeyIs v _ = key_text v ≡ []

key_of_kind : (v : Tree) → KeyIs v (kind_of v)
key_of_kind (Value.text b) = refl
key_of_kind (Value.int i) = ap signed_decimal (sym (signed_unsigned i))
key_of_kind (Value.uint n) = refl
key_of_kind (Value.bool x) = refl
key_of_kind (Value.float p) = refl
key_of_kind (Value.complex p q) = refl
key_of_kind (Value.bytes b) = refl
key_of_kind Value.nil = refl
key_of_kind (Value.many vs) = refl
key_of_kind (Value.pairs ps) = refl
key_of_kind (Value.fields fs) = refl
key_of_kind (Value.opaque b) = refl

pub key_is : (v : Tree) (k : ValueKind) → k ≡ kind_of v → KeyIs v k
key_is v k e = subst (KeyIs v) (sym e) (key_of_kind v)

pub other_key : (v : Tree) → (kind_of v ≢ kind.Str) → (kind_of v ≢ kind.Int) → (kind_of v ≢ kind.Uint) → key_text v ≡ []
other_key (Value.text b) s i u = absurd (s refl)
other_key (Value.int n) s i u = absurd (i refl)
other_key (Value.uint n) s i u = absurd (u refl)
other_key (Value.bool x) s i u = refl
other_key (Value.float p) s i u = refl
other_key (Value.complex p q) s i u = refl
other_key (Value.bytes b) s i u = refl
other_key Value.nil s i u = refl
other_key (Value.many vs) s i u = refl
other_key (Value.pairs ps) s i u = refl
other_key (Value.fields fs) s i u = refl
other_key (Value.opaque b) s i u = refl

-- ---- what is written of a part without parts

pub leaf_plain : {E : Type 0} {r : Result (Unit {0}) E} {old new : Written} {k l : ValueKind} (a b : ℕ) (s : List ℕ)
    → l ≡ k
    → WritesPlain r old new (SaysLeaf k a b s) → WritesPlain r old new (SaysLeaf l a b s)
leaf_plain {r = r} {old = old} {new = new} a b s e w =
    subst (λ k. WritesPlain r old new (SaysLeaf k a b s)) (sym e) w

pub null_leaf : (k : ValueKind) (a b : ℕ) (s : List ℕ) → (k ≢ kind.Bool) → (k ≢ kind.Int) → (k ≢ kind.Uint)
    → (k ≢ kind.Float)
    → (k ≢ kind.Complex) → (k ≢ kind.Bytes) → (k ≢ kind.Str) → SaysLeaf k a b s json.null
null_leaf kind.Bool a b s x0 x1 x2 x3 x4 x5 x6 = absurd (x0 refl)
null_leaf kind.Int a b s x0 x1 x2 x3 x4 x5 x6 = absurd (x1 refl)
null_leaf kind.Uint a b s x0 x1 x2 x3 x4 x5 x6 = absurd (x2 refl)
null_leaf kind.Float a b s x0 x1 x2 x3 x4 x5 x6 = absurd (x3 refl)
null_leaf kind.Complex a b s x0 x1 x2 x3 x4 x5 x6 = absurd (x4 refl)
null_leaf kind.Bytes a b s x0 x1 x2 x3 x4 x5 x6 = absurd (x5 refl)
null_leaf kind.Str a b s x0 x1 x2 x3 x4 x5 x6 = absurd (x6 refl)
null_leaf kind.Opaque a b s x0 x1 x2 x3 x4 x5 x6 = refl
null_leaf kind.Nil a b s x0 x1 x2 x3 x4 x5 x6 = refl
null_leaf kind.Many a b s x0 x1 x2 x3 x4 x5 x6 = refl
null_leaf kind.Pairs a b s x0 x1 x2 x3 x4 x5 x6 = refl
null_leaf kind.Fields a b s x0 x1 x2 x3 x4 x5 x6 = refl
