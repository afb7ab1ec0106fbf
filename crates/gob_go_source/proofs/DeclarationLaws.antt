-- What the tokens of declarations say where more types come behind, and which tokens are passed over.
use Rattle.std.proofs.Common.{◌≡◌, ℕ, ◌<◌, ◌≤◌, List, [], ◌∷◌, ◌++◌, ◌∙◌, Bool, true, false, length}
use Rattle.std.proofs.Common.{append_assoc, refl, ap, sym, subst, arith}
use Rattle.std.specs.Prelude.{Some, None, ◌==◌, if◌then◌else◌}
use Rattle.gob_go_source.specs.declared.token.Note.{Note}
use Rattle.gob_go_source.specs.declared.token.Token.{Token}
use Rattle.gob_go_source.specs.declared.token.Token.TheVariants as token
use Rattle.gob_go_source.specs.declared.token.Mark.TheVariants as mark
use Rattle.gob_go_source.specs.declared.go_type.Declaration.{Declaration}
use Rattle.gob_go_source.specs.declared.go_type.GoType.{GoType}
use Rattle.gob_go_source.specs.Brackets.{depth_after}
use Rattle.gob_go_source.specs.Declarations.{Aliased, Declares, behind_stop, ends_at}
use Rattle.gob_go_source.specs.Declarations.{SaysDeclaration, says_declaration}
use Rattle.gob_go_source.specs.Notes.{no_note}
use Rattle.gob_go_source.specs.Declarations.{SaysGroup, no_declarations, more_declarations}
use Rattle.gob_go_source.specs.Declarations.{SaysTypes, one_type, some_types}
use Rattle.gob_go_source.specs.Declarations.{SaysTop, declares_types, names_package, passed_over}
use Rattle.gob_go_source.specs.Declarations.{SaysSource, nothing_said, more_said}
use Rattle.gob_go_source.specs.Grown.{Grown}
use Rattle.gob_go_source.proofs.BracketLaws.{first_of, second_of, within_by}
use Rattle.gob_go_source.proofs.GrammarLaws.{append_none, says_then, says_shorter, shorter_by, stops_within}

-- ---- what is passed over

pub ends_here : (d : ℕ) {t : Token} {ts us : List Token} → ts ≡ t ∷ us → ends_at d t ≡ true
    → behind_stop d ts ≡ Some us
ends_here d {t = t} {us = us} e h =
    ap (behind_stop d) e ∙ first_of (ends_at d t) (Some us) (behind_stop (depth_after d t) us) h

pub goes_on : (d n : ℕ) {t : Token} {ts us : List Token} → ts ≡ t ∷ us → ends_at d t ≡ false → n ≡ depth_after d t
    → behind_stop n us ≡ behind_stop d ts
goes_on d n {t = t} {us = us} e h same =
    ap (λ (k : ℕ). behind_stop k us) same
    ∙ sym (ap (behind_stop d) e ∙ second_of (ends_at d t) (Some us) (behind_stop (depth_after d t) us) h)

pub at_end : (d : ℕ) {ts : List Token} → d ≡ 0 → ts ≡ [] → behind_stop d ts ≡ Some ts
at_end d z e =
    ap (behind_stop d) e ∙ first_of (d == 0) (Some []) None (ap (λ (k : ℕ). k == 0) z)
    ∙ ap (λ (l : List Token). Some l) (sym e)

last_within : (b : Bool) (us : List Token) → (if b then Some [] else None) ≡ Some us → length us ≤ 0
last_within true us e = let same : [] ≡ us = cc in omega (arith, ap length same)
last_within false us e = cc

behind_within : (d : ℕ) (ts us : List Token) → behind_stop d ts ≡ Some us → length us ≤ length ts
behind_within d [] us e = last_within (d == 0) us e
behind_within d (t ∷ ts) us e =
    within_by (ends_at d t) t ts us (behind_stop (depth_after d t) ts) (behind_within (depth_after d t) ts us) e

-- ---- what is said stays said

declaration_then : {ts us : List GoType} {note : Note} {d : Declaration} {a b : List Token}
    → SaysDeclaration ts note d a b → Grown ts us → SaysDeclaration us note d a b
declaration_then (says_declaration n e a s stop) g = says_declaration n e a (says_then s g) stop

pub group_then : {ts us : List GoType} {ds : List Declaration} {a b : List Token}
    → SaysGroup ts ds a b → Grown ts us → SaysGroup us ds a b
group_then no_declarations g = no_declarations
group_then (more_declarations s d) g = more_declarations (group_then s g) (declaration_then d g)

types_then : {ts us : List GoType} {note : Note} {ds : List Declaration} {a b : List Token}
    → SaysTypes ts note ds a b → Grown ts us → SaysTypes us note ds a b
types_then (one_type d) g = one_type (declaration_then d g)
types_then (some_types e s f stop) g = some_types e (group_then s g) f stop

pub top_then : {ts us : List GoType} {ds : List Declaration} {a b : List Token}
    → SaysTop ts ds a b → Grown ts us → SaysTop us ds a b
top_then (declares_types e s) g = declares_types e (types_then s g)
top_then (names_package e f stop) g = names_package e f stop
top_then (passed_over e p f) g = passed_over e p f

pub source_then : {ts us : List GoType} {ds : List Declaration} {a b : List Token}
    → SaysSource ts ds a b → Grown ts us → SaysSource us ds a b
source_then nothing_said g = nothing_said
source_then (more_said s t) g = more_said (source_then s g) (top_then t g)

-- ---- one more is read

-- a sign of equality was taken, or none
pub aliased : (r : Bool) (a b : List Token) → (r ≡ true → a ≡ token.Mark mark.Equals ∷ b) → (r ≡ false → b ≡ a)
    → Aliased r a b
aliased true a b taken stays = taken refl
aliased false a b taken stays = stays refl

-- none are declared
pub none_more : (says : List Declaration → Type 0) (ds : List Declaration) → says [] → Declares says ds ds
none_more says ds s = record { more = []; is = sym (append_none ds); said = s }

-- where these are said behind what was, those are
pub weaker : {P Q : List Declaration → Type 0} {ds es : List Declaration} → ((fs : List Declaration) → P fs → Q fs)
    → Declares P ds es → Declares Q ds es
weaker f d = record { more = d.more; is = d.is; said = f d.more d.said }

pub one_more_declaration : (ts us : List GoType) (ds es : List Declaration) (d : Declaration)
    {a b c e : List Token} → Declares (λ fs. SaysGroup ts fs a b) ds es → c ≡ b → SaysDeclaration us no_note d c e
    → Grown ts us → Declares (λ fs. SaysGroup us fs a e) ds (es ++ d ∷ [])
one_more_declaration ts us ds es d {a = a} s same h g = record {
  more = s.more ++ d ∷ [];
  is = ap (λ (l : List Declaration). l ++ d ∷ []) s.is ∙ append_assoc ds s.more (d ∷ []);
  said = more_declarations (group_then (subst (λ (l : List Token). SaysGroup ts s.more a l) (sym same) s.said) g) h;
}

pub one_more_top : (ts us : List GoType) (ds es : List Declaration) {a b c : List Token} → SaysSource ts ds a b
    → Declares (λ fs. SaysTop us fs b c) ds es → Grown ts us → SaysSource us es a c
one_more_top ts us ds es {a = a} {c = c} s d g =
    subst (λ (l : List Declaration). SaysSource us l a c) (sym d.is) (more_said (source_then s g) d.said)

pub source_from : (ts : List GoType) (ds : List Declaration) (a : List Token) {b c : List Token}
    → SaysSource ts ds a b → b ≡ c → SaysSource ts ds a c
source_from ts ds a s e = subst (λ (l : List Token). SaysSource ts ds a l) e s

-- a declaration that declares no type says so whatever the types are
pub declares_none : (ts : List GoType) (t u : Token) (a b : List Token) (ds : List Declaration) → u ≡ t
    → SaysTop [] [] (t ∷ a) b → Declares (λ es. SaysTop ts es (u ∷ a) b) ds ds
declares_none ts t u a b ds e s =
    none_more (λ es. SaysTop ts es (u ∷ a) b) ds
    (subst (λ (x : Token). SaysTop ts [] (x ∷ a) b) (sym e) (top_then s (ts, refl)))

-- ---- fewer tokens are left

aliased_within : (r : Bool) (a b : List Token) → Aliased r a b → length b ≤ length a
aliased_within true a b e = omega (arith, shorter_by e)
aliased_within false a b e = omega (arith, ap length e)

pub declaration_shorter : {ts : List GoType} {note : Note} {d : Declaration} {a b : List Token}
    → SaysDeclaration ts note d a b → length b < length a
declaration_shorter (says_declaration {d = d} {next = next} {begun = begun} n e a s stop) =
    omega (arith, shorter_by e, aliased_within d.is_alias next begun a, says_shorter s, stops_within stop)

group_within : {ts : List GoType} {ds : List Declaration} {a b : List Token} → SaysGroup ts ds a b
    → length b ≤ length a
group_within no_declarations = omega arith
group_within (more_declarations s d) = omega (arith, group_within s, declaration_shorter d)

types_within : {ts : List GoType} {note : Note} {ds : List Declaration} {a b : List Token} → SaysTypes ts note ds a b
    → length b ≤ length a
types_within (one_type d) = omega (arith, declaration_shorter d)
types_within (some_types e s f stop) =
    omega (arith, shorter_by e, group_within s, shorter_by f, stops_within stop)

pub top_shorter : {ts : List GoType} {ds : List Declaration} {a b : List Token} → SaysTop ts ds a b
    → length b < length a
top_shorter (declares_types e s) = omega (arith, shorter_by e, types_within s)
top_shorter (names_package e f stop) = omega (arith, shorter_by e, shorter_by f, stops_within stop)
top_shorter (passed_over {next = next} {rest = rest} e p f) =
    omega (arith, shorter_by e, behind_within 0 next rest f)
