-- What lists of events build.
use Rattle.std.proofs.Common.{◌≡◌, ℕ, ℤ, pos, negsuc, ◌+◌, ◌*◌, ◌/◌, ◌%◌, ◌<◌, ◌^◌, List, [], ◌∷◌, ◌++◌, Option, Some}
use Rattle.std.proofs.Common.{None, Bool, true, false, arith, refl, sym, ap, ◌∙◌, append_assoc}
use Rattle.std.specs.Prelude.{◌==◌, if◌then◌else◌}
use Rattle.std.proofs.lemmas.List.{append-nil}
use Rattle.gob_num.specs.Unsigned.{IsUnsigned}
use Rattle.gob_num.specs.Signed.{IsSigned, not_negative, negative}
use Rattle.gob_num.proofs.PublicLaws.{unsigned_value, unsigned_spelled}
use Rattle.gob_types.specs.declared.basic.Basic.TheVariants as basic
use Rattle.gob_value.specs.Tree.{Tree, Trees, no_tree, tree, Pairs, no_pair, pair, Fields, no_field}
use Rattle.gob_value.specs.Tree as Value
use Rattle.gob_value.specs.View.{trees_of, pairs_of, fields_of}
use Rattle.gob_value.specs.Spelling.{truth}
use Rattle.gob_read.specs.declared.event.RawKind.{RawKind}
use Rattle.gob_read.specs.Event.{Event, number, raw_start, raw_more, leave, HasRawEvents, no_bytes, more_bytes}
use Rattle.gob_read.specs.Event.{HasEvents, tell_bool, tell_not_negative, tell_negative, tell_uint, tell_float}
use Rattle.gob_read.specs.Event.{tell_complex, tell_nil, tell_bytes, tell_text, tell_opaque, tell_many, tell_pairs}
use Rattle.gob_read.specs.Event.{tell_fields, HaveEvents, tell_none, tell_each, PairsHaveEvents, tell_no_pair}
use Rattle.gob_read.specs.Event.{tell_pair, FieldsHaveEvents, tell_no_field, tell_field}
use Rattle.gob_read.specs.Building.{HasRoomFor}
use Rattle.gob_read.specs.Weight.{parts_told, raw_told}
use Rattle.gob_read.specs.Machine.Built.{OpenPart, raw, many, pairs, fields, Work, no_work, put, told, all_told}
use Rattle.gob_read.specs.Leaf.{signed_of, raw_tree}
use Rattle.gob_read.specs.Machine.Received.{AreBuilt}
use Rattle.gob_read.proofs.Events.CountLaws.{parts_told-append, raw_told-append}

pub all_told-append : (w : Work) (us ws : List Event) → all_told w (us ++ ws) ≡ all_told (all_told w us) ws
all_told-append w [] ws = refl
all_told-append w (t ∷ us) ws = all_told-append (told w t) us ws

-- one more event
pub told_more : (old new : Work) (before after : ℕ) (us : List Event) (t : Event) → new ≡ told old t
    → after ≡ before + (parts_told (t ∷ []) + raw_told (t ∷ [])) → AreBuilt old before us
    → AreBuilt new after (us ++ t ∷ [])
told_more old new before after us t e n a = record {
  built = e ∙ ap (λ w. told w t) a.built ∙ sym (all_told-append no_work us (t ∷ []));
  count = omega (arith, n, a.count, parts_told-append us (t ∷ []), raw_told-append us (t ∷ []));
}

-- and there is room to count it
pub one_counted : {w : Work} {held : ℕ} (us : List Event) (t : Event) → AreBuilt w held us → HasRoomFor (us ++ t ∷ [])
    → held + (parts_told (t ∷ []) + raw_told (t ∷ [])) < 2 ^ 64
one_counted us t a r = omega (arith, r.room, a.count, parts_told-append us (t ∷ []), raw_told-append us (t ∷ []))

signed_even : (n : ℕ) → signed_of (2 * n) ≡ pos n
signed_even n =
    let even : 2 * n % 2 ≡ 0 = omega arith in
    let half : 2 * n / 2 ≡ n = omega arith in
    ap (λ r. if r == 0 then pos (2 * n / 2) else negsuc (2 * n / 2)) even ∙ ap pos half

signed_odd : (n : ℕ) → signed_of (2 * n + 1) ≡ negsuc n
signed_odd n =
    let odd : (2 * n + 1) % 2 ≡ 1 = omega arith in
    let half : (2 * n + 1) / 2 ≡ n = omega arith in
    ap (λ r. if r == 0 then pos ((2 * n + 1) / 2) else negsuc ((2 * n + 1) / 2)) odd ∙ ap negsuc half

-- the one signed number that is spelled as this unsigned one
pub signed_is : (u : ℕ) (i : ℤ) → u < 2 ^ 64 → ((bytes : List ℕ) → IsUnsigned u bytes → IsSigned i bytes)
    → i ≡ signed_of u
signed_is u i h s = let b = unsigned_spelled u h in from b.spelled (s b.bytes b.spelled)
  where
    from : {u : ℕ} {i : ℤ} {bytes : List ℕ} → IsUnsigned u bytes → IsSigned i bytes → i ≡ signed_of u
    from {u = u} h (not_negative {n = n} s) = sym (ap signed_of (unsigned_value h s) ∙ signed_even n)
    from {u = u} h (negative {n = n} s) = sym (ap signed_of (unsigned_value h s) ∙ signed_odd n)

abbrev work : List OpenPart → Option Tree → Work
work parts whole = record { parts = parts; whole = whole }

raw_built : {s : List ℕ} {us : List Event} → HasRawEvents s us → (k : RawKind) (r : List ℕ) (ps : List OpenPart)
    (whole : Option Tree) → all_told (work (raw k r ∷ ps) whole) us ≡ work (raw k (r ++ s) ∷ ps) whole
raw_built no_bytes k r ps whole = ap (λ l. work (raw k l ∷ ps) whole) (sym (append-nil r))
raw_built (more_bytes {s = s} {us = us} c t) k r ps whole =
    all_told-append (work (raw k r ∷ ps) whole) us (raw_more c ∷ [])
    ∙ ap (λ w. told w (raw_more c)) (raw_built t k r ps whole)
    ∙ ap (λ l. work (raw k l ∷ ps) whole) (append_assoc r s c)

-- a raw part from its start to its end
raw_whole : {s : List ℕ} {us : List Event} → HasRawEvents s us → (k : RawKind) (w : Work)
    → all_told w ((raw_start k ∷ us) ++ leave ∷ []) ≡ put w (raw_tree k s)
raw_whole {us = us} t k w =
    all_told-append (work (raw k [] ∷ w.parts) w.whole) us (leave ∷ [])
    ∙ ap (λ x. told x leave) (raw_built t k [] w.parts w.whole)

abbrev list_of : Trees → List Tree
list_of no_tree = []
list_of (tree v vs) = v ∷ list_of vs

trees_of-list_of : (vs : Trees) → trees_of (list_of vs) ≡ vs
trees_of-list_of no_tree = refl
trees_of-list_of (tree v vs) = ap (λ l. tree v l) (trees_of-list_of vs)

abbrev pair_list : Pairs → List (Tree × Tree)
pair_list no_pair = []
pair_list (pair k e ps) = (k, e) ∷ pair_list ps

pairs_of-pair_list : (ps : Pairs) → pairs_of (pair_list ps) ≡ ps
pairs_of-pair_list no_pair = refl
pairs_of-pair_list (pair k e ps) = ap (λ l. pair k e l) (pairs_of-pair_list ps)

abbrev field_list : Fields → List (ℕ × Tree)
field_list no_field = []
field_list (Value.field f v fs) = (f, v) ∷ field_list fs

fields_of-field_list : (fs : Fields) → fields_of (field_list fs) ≡ fs
fields_of-field_list no_field = refl
fields_of-field_list (Value.field f v fs) = ap (λ l. Value.field f v l) (fields_of-field_list fs)

truth_is : (b : Bool) (w : Work) → all_told w (number basic.Bool (truth b) 0 ∷ []) ≡ put w (Tree.bool b)
truth_is false w = refl
truth_is true w = refl

mutual
  -- the events of a value put it where a part comes next
  pub tells_built : {v : Tree} {us : List Event} → HasEvents v us → (w : Work) → all_told w us ≡ put w v
  tells_built (tell_bool {b = b}) w = truth_is b w
  tells_built (tell_not_negative {n = n}) w = ap (λ i. put w (Tree.int i)) (signed_even n)
  tells_built (tell_negative {n = n}) w = ap (λ i. put w (Tree.int i)) (signed_odd n)
  tells_built tell_uint w = refl
  tells_built tell_float w = refl
  tells_built tell_complex w = refl
  tells_built tell_nil w = refl
  tells_built (tell_bytes t) w = raw_whole t _ w
  tells_built (tell_text t) w = raw_whole t _ w
  tells_built (tell_opaque t) w = raw_whole t _ w
  tells_built (tell_many {vs = vs} {us = us} t) w =
      all_told-append (work (many [] ∷ w.parts) w.whole) us (leave ∷ [])
      ∙ ap (λ x. told x leave) (each_built t [] w.parts w.whole) ∙ ap (λ l. put w (Tree.many l)) (trees_of-list_of vs)
  tells_built (tell_pairs {ps = ps} {us = us} t) w =
      all_told-append (work (pairs [] None ∷ w.parts) w.whole) us (leave ∷ [])
      ∙ ap (λ x. told x leave) (pairs_built t [] w.parts w.whole)
      ∙ ap (λ l. put w (Tree.pairs l)) (pairs_of-pair_list ps)
  tells_built (tell_fields {fs = fs} {us = us} t) w =
      all_told-append (work (fields [] None ∷ w.parts) w.whole) us (leave ∷ [])
      ∙ ap (λ x. told x leave) (fields_built t [] w.parts w.whole)
      ∙ ap (λ l. put w (Tree.fields l)) (fields_of-field_list fs)

  each_built : {vs : Trees} {us : List Event} → HaveEvents vs us
      → (xs : List Tree) (ps : List OpenPart) (whole : Option Tree) → all_told (work (many xs ∷ ps) whole) us ≡ work
      (many (xs ++ list_of vs) ∷ ps) whole
  each_built tell_none xs ps whole = ap (λ l. work (many l ∷ ps) whole) (sym (append-nil xs))
  each_built (tell_each {v = v} {vs = vs} {us = us} {ws = ws} t ts) xs ps whole =
      all_told-append (work (many xs ∷ ps) whole) us ws
      ∙ ap (λ w. all_told w ws) (tells_built t (work (many xs ∷ ps) whole))
      ∙ each_built ts (xs ++ v ∷ []) ps whole
      ∙ ap (λ l. work (many l ∷ ps) whole) (append_assoc xs (v ∷ []) (list_of vs))

  pairs_built : {es : Pairs} {us : List Event} → PairsHaveEvents es us
      → (xs : List (Tree × Tree)) (ps : List OpenPart) (whole : Option Tree)
      → all_told (work (pairs xs None ∷ ps) whole) us ≡ work (pairs (xs ++ pair_list es) None ∷ ps) whole
  pairs_built tell_no_pair xs ps whole = ap (λ l. work (pairs l None ∷ ps) whole) (sym (append-nil xs))
  pairs_built (tell_pair {k = k} {e = e} {ps = es} {us = us} {ws = ws} {xs = ys} t u ts) xs ps whole =
      all_told-append (work (pairs xs None ∷ ps) whole) us (ws ++ ys)
      ∙ ap (λ w. all_told w (ws ++ ys)) (tells_built t (work (pairs xs None ∷ ps) whole))
      ∙ all_told-append (work (pairs xs (Some k) ∷ ps) whole) ws ys
      ∙ ap (λ w. all_told w ys) (tells_built u (work (pairs xs (Some k) ∷ ps) whole))
      ∙ pairs_built ts (xs ++ (k, e) ∷ []) ps whole
      ∙ ap (λ l. work (pairs l None ∷ ps) whole) (append_assoc xs ((k, e) ∷ []) (pair_list es))

  fields_built : {fs : Fields} {us : List Event} → FieldsHaveEvents fs us
      → (xs : List (ℕ × Tree)) (ps : List OpenPart) (whole : Option Tree)
      → all_told (work (fields xs None ∷ ps) whole) us ≡ work (fields (xs ++ field_list fs) None ∷ ps) whole
  fields_built tell_no_field xs ps whole = ap (λ l. work (fields l None ∷ ps) whole) (sym (append-nil xs))
  fields_built (tell_field {f = f} {v = v} {fs = fs} {us = us} {ws = ws} t ts) xs ps whole =
      all_told-append (work (fields xs (Some f) ∷ ps) whole) us ws
      ∙ ap (λ w. all_told w ws) (tells_built t (work (fields xs (Some f) ∷ ps) whole))
      ∙ fields_built ts (xs ++ (f, v) ∷ []) ps whole
      ∙ ap (λ l. work (fields l None ∷ ps) whole) (append_assoc xs ((f, v) ∷ []) (field_list fs))

-- what is built is the value that is told
pub built_value : {w : Work} {held : ℕ} {us : List Event} {v : Tree} → AreBuilt w held us → HasEvents v us
    → w.whole ≡ Some v
built_value a t = ap (λ x. x.whole) (a.built ∙ tells_built t no_work)

-- events are those of one value
pub tells_one : {v w : Tree} {us : List Event} → HasEvents v us → HasEvents w us → v ≡ w
tells_one t u = let e = ap (λ x. x.whole) (sym (tells_built t no_work) ∙ tells_built u no_work) in cc
