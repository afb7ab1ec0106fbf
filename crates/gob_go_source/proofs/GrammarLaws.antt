-- What the tokens of a type say where more types come behind, and that each type takes a token at least.
use Rattle.std.proofs.Common.{◌≡◌, ℕ, zero, suc, ◌<◌, ◌≤◌, List, [], ◌∷◌, ◌++◌, ◌∙◌, length, refl, ap, sym, subst}
use Rattle.std.proofs.Common.{append_assoc, arith, Some, Bool, true, false}
use Rattle.std.specs.Prelude.{slice_get, IsTrue, IfOk, Result}
use Rattle.gob_go_source.specs.declared.fault.Fault.{Fault}
use Rattle.std.specs.Borrow.{Bor}
use Rattle.gob_go_source.specs.declared.token.Token.{Token}
use Rattle.gob_go_source.specs.declared.token.Token.TheVariants as token
use Rattle.gob_go_source.specs.declared.token.Mark.TheVariants as mark
use Rattle.gob_go_source.specs.declared.go_type.GoField.{GoField}
use Rattle.gob_go_source.specs.declared.go_type.GoType.{GoType}
use Rattle.gob_go_source.specs.Grammar.{Says, says_name, says_qualified, says_pointer, in_parentheses, says_slice}
use Rattle.gob_go_source.specs.Grammar.{says_array, says_map, says_struct, says_interface, says_channel, says_function}
use Rattle.gob_go_source.specs.Grammar.{BeginsChannel, both_ways, only_sends, only_receives}
use Rattle.gob_go_source.specs.Grammar.{SaysResults, no_result, in_brackets, one_result}
use Rattle.gob_go_source.specs.Grammar.{SaysFields, no_fields, more_fields, SaysField, says_field}
use Rattle.gob_go_source.specs.Grammar.{FieldNames, names_stand, none_stands, closes}
use Rattle.gob_go_source.specs.Grammar.{SaysNames, one_name, more_names, Tagged, untagged, tagged}
use Rattle.gob_go_source.specs.Grammar.{Stops, stopped, closed}
use Rattle.gob_go_source.specs.Grown.{Grown}
use Rattle.gob_go_source.proofs.BracketLaws.{close_within}

-- ---- a list that grows

pub append_none : {A : Type 0} (xs : List A) → xs ++ [] ≡ xs
append_none [] = refl
append_none (x ∷ xs) = ap (λ l. x ∷ l) (append_none xs)

pub grown_same : {A : Type 0} (xs : List A) → Grown xs xs
grown_same xs = ([], sym (append_none xs))

pub grown_then : {A : Type 0} (xs ys zs : List A) → Grown xs ys → Grown ys zs → Grown xs zs
grown_then xs ys zs g h = (g.0 ++ h.0, h.1 ∙ ap (λ l. l ++ h.0) g.1 ∙ append_assoc xs g.0 h.0)

kept : (xs ys : List GoType) (n : ℕ) {x : GoType} → slice_get xs n ≡ Some x → slice_get (xs ++ ys) n ≡ Some x
kept [] ys n e = cc
kept (y ∷ xs) ys zero e = e
kept (y ∷ xs) ys (suc n) e = kept xs ys n e

last_of : (xs : List GoType) (x : GoType) → slice_get (xs ++ x ∷ []) (length xs) ≡ Some x
last_of [] x = refl
last_of (y ∷ xs) x = last_of xs x

-- the type that was put behind the others stands at its place
pub added : (xs ys : List GoType) (x : GoType) (n : ℕ) → n ≡ length xs → ys ≡ xs ++ x ∷ [] → slice_get ys n ≡ Some x
added xs ys x n e f =
    ap (λ (l : List GoType). slice_get l n) f ∙ ap (slice_get (xs ++ x ∷ [])) e ∙ last_of xs x

-- ---- what is said stays said

mutual
  says_on : (ts us : List GoType) (n : ℕ) {a b : List Token} → Says ts n a b → Says (ts ++ us) n a b
  says_on ts us n (says_name e f) = says_name (kept ts us n e) f
  says_on ts us n (says_qualified e f g h) = says_qualified (kept ts us n e) f g h
  says_on ts us n (says_pointer e f s) = says_pointer (kept ts us n e) f (says_on ts us _ s)
  says_on ts us n (in_parentheses f s g) = in_parentheses f (says_on ts us n s) g
  says_on ts us n (says_slice e f g s) = says_slice (kept ts us n e) f g (says_on ts us _ s)
  says_on ts us n (says_array e f g h s) = says_array (kept ts us n e) f g h (says_on ts us _ s)
  says_on ts us n (says_map e f g k h s) =
      says_map (kept ts us n e) f g (says_on ts us _ k) h (says_on ts us _ s)
  says_on ts us n (says_struct e f g fs h) = says_struct (kept ts us n e) f g (fields_on ts us fs) h
  says_on ts us n (says_interface e f g h) = says_interface (kept ts us n e) f g h
  says_on ts us n (says_channel e f s) = says_channel (kept ts us n e) f (says_on ts us _ s)
  says_on ts us n (says_function e f g h r) = says_function (kept ts us n e) f g h (results_on ts us r)

  results_on : (ts us : List GoType) {a b : List Token} → SaysResults ts a b → SaysResults (ts ++ us) a b
  results_on ts us no_result = no_result
  results_on ts us (in_brackets e f) = in_brackets e f
  results_on ts us (one_result s) = one_result (says_on ts us _ s)

  fields_on : (ts us : List GoType) {fs : List GoField} {a b : List Token} → SaysFields ts fs a b
      → SaysFields (ts ++ us) fs a b
  fields_on ts us no_fields = no_fields
  fields_on ts us (more_fields fs f) = more_fields (fields_on ts us fs) (field_on ts us f)

  field_on : (ts us : List GoType) {f : GoField} {a b : List Token} → SaysField ts f a b → SaysField (ts ++ us) f a b
  field_on ts us (says_field names s t e) = says_field names (says_on ts us _ s) t e

pub says_then : {ts us : List GoType} {n : ℕ} {a b : List Token} → Says ts n a b → Grown ts us → Says us n a b
says_then {ts = ts} {n = n} {a = a} {b = b} s g =
    subst (λ (l : List GoType). Says l n a b) (sym g.1) (says_on ts g.0 n s)

-- the tokens that a call leaves are those that it has found
pub closed_at : {a b : List Token} → b ≡ a → IsTrue (closes b) → Stops a b
closed_at {a = a} {b = b} e h =
    subst (λ (l : List Token). Stops a l) (sym e) (closed (subst (λ (l : List Token). IsTrue (closes l)) e h))

pub read_from : (r : Result ℕ Fault) (ts : List GoType) {a b : List Token} (c : List Token) → b ≡ a
    → IfOk r (λ n. Says ts n a c) → IfOk r (λ n. Says ts n b c)
read_from r ts c e h = subst (λ (l : List Token). IfOk r (λ n. Says ts n l c)) (sym e) h

pub fields_then : {ts us : List GoType} {fs : List GoField} {a b : List Token} → SaysFields ts fs a b → Grown ts us
    → SaysFields us fs a b
fields_then {ts = ts} {fs = fs} {a = a} {b = b} s g =
    subst (λ (l : List GoType). SaysFields l fs a b) (sym g.1) (fields_on ts g.0 s)

pub results_then : {ts us : List GoType} {a b : List Token} → SaysResults ts a b → Grown ts us → SaysResults us a b
results_then {ts = ts} {a = a} {b = b} s g =
    subst (λ (l : List GoType). SaysResults l a b) (sym g.1) (results_on ts g.0 s)

pub no_results : {ts : List GoType} {a b : List Token} → b ≡ a → SaysResults ts a b
no_results {ts = ts} {a = a} e = subst (λ (l : List Token). SaysResults ts a l) (sym e) no_result

pub results_from : {ts : List GoType} {a b : List Token} {c : List Token} → b ≡ a → SaysResults ts b c
    → SaysResults ts a c
results_from {ts = ts} {c = c} e s = subst (λ (l : List Token). SaysResults ts l c) e s

-- an arrow was taken behind the keyword, or none
pub channel_begun : (r : Bool) (a b : List Token) → (r ≡ true → a ≡ token.Mark mark.Arrow ∷ b) → (r ≡ false → b ≡ a)
    → BeginsChannel (token.Mark mark.Chan ∷ a) b
channel_begun true a b taken stays = only_sends refl (taken refl)
channel_begun false a b taken stays = both_ways (ap (λ (l : List Token). token.Mark mark.Chan ∷ l) (sym (stays refl)))

pub one_more_line : {ts us : List GoType} {fs : List GoField} {f : GoField} {a b c d : List Token}
    → SaysFields ts fs a b → c ≡ b → SaysField us f c d → Grown ts us → SaysFields us (fs ++ f ∷ []) a d
one_more_line {ts = ts} {fs = fs} {a = a} s e f g =
    more_fields (fields_then (subst (λ (l : List Token). SaysFields ts fs a l) (sym e) s) g) f

-- ---- fewer tokens are left

pub shorter_by : {t : Token} {a b : List Token} → a ≡ t ∷ b → length b < length a
shorter_by e = omega (arith, ap length e)

tagged_within : {a b : List Token} → Tagged a b → length b ≤ length a
tagged_within untagged = omega arith
tagged_within (tagged e) = omega (arith, shorter_by e)

pub stops_within : {a b : List Token} → Stops a b → length b ≤ length a
stops_within (stopped e) = omega (arith, shorter_by e)
stops_within (closed e) = omega arith

names_shorter : {ws : List (Bor (List ℕ))} {a b : List Token} → SaysNames ws a b → length b < length a
names_shorter (one_name e) = shorter_by e
names_shorter (more_names s e f) = omega (arith, names_shorter s, shorter_by e, shorter_by f)

names_within : {ws : List (Bor (List ℕ))} {a b : List Token} → FieldNames ws a b → length b ≤ length a
names_within (names_stand s) = omega (arith, names_shorter s)
names_within (none_stands e) = omega arith

channel_shorter : {a b : List Token} → BeginsChannel a b → length b < length a
channel_shorter (both_ways e) = shorter_by e
channel_shorter (only_sends e f) = omega (arith, shorter_by e, shorter_by f)
channel_shorter (only_receives e f) = omega (arith, shorter_by e, shorter_by f)

mutual
  pub says_shorter : {ts : List GoType} {n : ℕ} {a b : List Token} → Says ts n a b → length b < length a
  says_shorter (says_name e f) = shorter_by f
  says_shorter (says_qualified e f g h) = omega (arith, shorter_by f, shorter_by g, shorter_by h)
  says_shorter (says_pointer e f s) = omega (arith, shorter_by f, says_shorter s)
  says_shorter (in_parentheses f s g) = omega (arith, shorter_by f, says_shorter s, shorter_by g)
  says_shorter (says_slice e f g s) = omega (arith, shorter_by f, shorter_by g, says_shorter s)
  says_shorter (says_array e f g h s) = omega (arith, shorter_by f, shorter_by g, shorter_by h, says_shorter s)
  says_shorter (says_map e f g k h s) =
      omega (arith, shorter_by f, shorter_by g, says_shorter k, shorter_by h, says_shorter s)
  says_shorter (says_struct e f g fs h) = omega (arith, shorter_by f, shorter_by g, fields_within fs, shorter_by h)
  says_shorter (says_interface {last = last} {rest = rest} e f g h) =
      omega (arith, shorter_by f, shorter_by g, close_within 0 last rest h)
  says_shorter (says_channel e f s) = omega (arith, channel_shorter f, says_shorter s)
  says_shorter (says_function {parameters = parameters} {results = results} e f g h r) =
      omega (arith, shorter_by f, shorter_by g, close_within 0 parameters results h, results_within r)

  results_within : {ts : List GoType} {a b : List Token} → SaysResults ts a b → length b ≤ length a
  results_within no_result = omega arith
  results_within (in_brackets {next = next} {rest = rest} e f) = omega (arith, shorter_by e, close_within 0 next rest f)
  results_within (one_result s) = omega (arith, says_shorter s)

  fields_within : {ts : List GoType} {fs : List GoField} {a b : List Token} → SaysFields ts fs a b
      → length b ≤ length a
  fields_within no_fields = omega arith
  fields_within (more_fields fs f) = omega (arith, fields_within fs, field_shorter f)

  pub field_shorter : {ts : List GoType} {f : GoField} {a b : List Token} → SaysField ts f a b → length b < length a
  field_shorter (says_field names s t e) =
      omega (arith, names_within names, says_shorter s, tagged_within t, stops_within e)
