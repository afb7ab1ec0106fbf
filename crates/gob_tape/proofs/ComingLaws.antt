-- The events of a value may come where a part may begin, and so does each prefix of events that may come.
use Rattle.std.proofs.Common.{◌≡◌, ℕ, ◌≤◌, List, [], ◌∷◌, ◌++◌, Option, Some, None, Bool, true, false, arith, refl, sym}
use Rattle.std.proofs.Common.{ap, ◌∙◌, subst}
use Rattle.gob_value.specs.Tree.{Tree, Trees, Pairs, Fields}
use Rattle.gob_value.specs.Spelling.{truth}
use Rattle.gob_read.specs.declared.event.RawKind.{RawKind}
use Rattle.gob_read.specs.Event.{Event, raw_more, leave, HasRawEvents, no_bytes, more_bytes, HasEvents, tell_bool}
use Rattle.gob_read.specs.Event.{tell_not_negative, tell_negative, tell_uint, tell_float, tell_complex, tell_nil}
use Rattle.gob_read.specs.Event.{tell_bytes, tell_text, tell_opaque, tell_many, tell_pairs, tell_fields, HaveEvents}
use Rattle.gob_read.specs.Event.{tell_none, tell_each, PairsHaveEvents, tell_no_pair, tell_pair, FieldsHaveEvents}
use Rattle.gob_read.specs.Event.{tell_no_field, tell_field}
use Rattle.gob_read.specs.WellFormed.{of_bool, of_int, of_uint, of_float, of_complex, of_nil}
use Rattle.gob_read.specs.Machine.Built.{OpenPart, raw, many, pairs, fields, Work, told, all_told}
use Rattle.gob_read.proofs.PublicLaws.{all_told-append, tells_built}
use Rattle.gob_tape.specs.Machine.Coming.{IsFree, in_list, in_map, in_struct, MayEnd, of_raw, of_list, of_map}
use Rattle.gob_tape.specs.Machine.Coming.{of_struct, MayCome, a_number, a_raw_part, raw_bytes, a_group, a_field, an_end}
use Rattle.gob_tape.specs.Machine.Coming.{MayAllCome, none_comes, comes}

abbrev work : List OpenPart → Option Tree → Work
work parts whole = record { parts = parts; whole = whole }

-- the last event may come behind the others
pub prefix_comes : (us : List Event) (t : Event) {w : Work} → MayAllCome w (us ++ t ∷ []) → MayAllCome w us
    × MayCome (all_told w us).parts (all_told w us).whole t
prefix_comes [] t (comes m ms) = (none_comes, m)
prefix_comes (u ∷ us) t (comes m ms) = let x = prefix_comes us t ms in (comes m x.0, x.1)

then_come : {w : Work} {us ws : List Event} → MayAllCome w us → MayAllCome (all_told w us) ws → MayAllCome w (us ++ ws)
then_come none_comes n = n
then_come (comes m ms) n = comes m (then_come ms n)

one_comes : {w : Work} {t : Event} → MayCome w.parts w.whole t → MayAllCome w (t ∷ [])
one_comes m = comes m none_comes

truth_small : (b : Bool) → truth b ≤ 1
truth_small false = omega arith
truth_small true = omega arith

-- these events may come in the open part, and lead to one that may end
pub record Lead (p : OpenPart) (ps : List OpenPart) (whole : Option Tree) (us : List Event) : Type 0 where
  pub come : MayAllCome (work (p ∷ ps) whole) us
  pub part : OpenPart
  pub led : all_told (work (p ∷ ps) whole) us ≡ work (part ∷ ps) whole
  pub may_end : MayEnd part

-- a part from its beginning to its end
part_comes : {p : OpenPart} {ps : List OpenPart} {whole : Option Tree} {t : Event} {us : List Event}
    → MayCome ps whole t
    → told (work ps whole) t ≡ work (p ∷ ps) whole → Lead p ps whole us
    → MayAllCome (work ps whole) ((t ∷ us) ++ leave ∷ [])
part_comes {p = p} {ps = ps} {whole = whole} {t = t} {us = us} m e l =
    comes m (subst (λ w. MayAllCome w (us ++ leave ∷ [])) (sym e)
    (then_come l.come (subst (λ w. MayAllCome w (leave ∷ [])) (sym l.led) (one_comes (an_end l.may_end)))))

raw_leads : {s : List ℕ} {us : List Event} {ps : List OpenPart} {whole : Option Tree} → HasRawEvents s us
    → (k : RawKind) (r : List ℕ) → Lead (raw k r) ps whole us
raw_leads no_bytes k r = record { come = none_comes; part = raw k r; led = refl; may_end = of_raw }
raw_leads {ps = ps} {whole = whole} (more_bytes {us = us} c t) k r = grow (whole_raw t)
  where
    whole_raw : {s : List ℕ} {us : List Event} → HasRawEvents s us → (come : MayAllCome (work (raw k r ∷ ps) whole) us)
        × (s : List ℕ) × (all_told (work (raw k r ∷ ps) whole) us ≡ work (raw k s ∷ ps) whole)
    whole_raw no_bytes = (none_comes, r, refl)
    whole_raw (more_bytes {us = us} c t) =
        let x = whole_raw t in (
          then_come x.0 (subst (λ w. MayAllCome w (raw_more c ∷ [])) (sym x.2) (one_comes raw_bytes)),
          x.1 ++ c,
          all_told-append (work (raw k r ∷ ps) whole) us (raw_more c ∷ []) ∙ ap (λ w. told w (raw_more c)) x.2,
        )

    grow : (come : MayAllCome (work (raw k r ∷ ps) whole) us) × (s : List ℕ)
        × (all_told (work (raw k r ∷ ps) whole) us ≡ work (raw k s ∷ ps) whole)
        → Lead (raw k r) ps whole (us ++ raw_more c ∷ [])
    grow x = record {
      come = then_come x.0 (subst (λ w. MayAllCome w (raw_more c ∷ [])) (sym x.2) (one_comes raw_bytes));
      part = raw k (x.1 ++ c);
      led = all_told-append (work (raw k r ∷ ps) whole) us (raw_more c ∷ []) ∙ ap (λ w. told w (raw_more c)) x.2;
      may_end = of_raw;
    }

mutual
  -- the events of a value may come where a part may begin
  pub tells_come : {v : Tree} {us : List Event} {ps : List OpenPart} {whole : Option Tree} {f : Option ℕ}
      → HasEvents v us
      → IsFree ps whole f → MayAllCome (work ps whole) us
  tells_come (tell_bool {b = b}) h = one_comes (a_number h (of_bool (truth_small b)))
  tells_come tell_not_negative h = one_comes (a_number h of_int)
  tells_come tell_negative h = one_comes (a_number h of_int)
  tells_come tell_uint h = one_comes (a_number h of_uint)
  tells_come tell_float h = one_comes (a_number h of_float)
  tells_come tell_complex h = one_comes (a_number h of_complex)
  tells_come tell_nil h = one_comes (a_number h of_nil)
  tells_come (tell_bytes t) h = part_comes (a_raw_part h) refl (raw_leads t _ [])
  tells_come (tell_text t) h = part_comes (a_raw_part h) refl (raw_leads t _ [])
  tells_come (tell_opaque t) h = part_comes (a_raw_part h) refl (raw_leads t _ [])
  tells_come (tell_many t) h = part_comes (a_group h) refl (each_leads t [])
  tells_come (tell_pairs t) h = part_comes (a_group h) refl (pairs_lead t [])
  tells_come (tell_fields t) h = part_comes (a_group h) refl (fields_lead t [])

  each_leads : {vs : Trees} {us : List Event} {ps : List OpenPart} {whole : Option Tree} → HaveEvents vs us
      → (xs : List Tree) → Lead (many xs) ps whole us
  each_leads tell_none xs = record { come = none_comes; part = many xs; led = refl; may_end = of_list }
  each_leads {ps = ps} {whole = whole} (tell_each {v = v} {us = us} {ws = ws} t ts) xs =
      let e = tells_built t (work (many xs ∷ ps) whole) in
      let x = each_leads {ps = ps} {whole = whole} ts (xs ++ v ∷ []) in
      record {
        come = then_come (tells_come t in_list) (subst (λ w. MayAllCome w ws) (sym e) x.come);
        part = x.part;
        led = all_told-append (work (many xs ∷ ps) whole) us ws ∙ ap (λ w. all_told w ws) e ∙ x.led;
        may_end = x.may_end;
      }

  pairs_lead : {es : Pairs} {us : List Event} {ps : List OpenPart} {whole : Option Tree} → PairsHaveEvents es us
      → (xs : List (Tree × Tree)) → Lead (pairs xs None) ps whole us
  pairs_lead tell_no_pair xs = record { come = none_comes; part = pairs xs None; led = refl; may_end = of_map }
  pairs_lead {ps = ps} {whole = whole} (tell_pair {k = k} {e = e} {us = us} {ws = ws} {xs = ys} t u ts) xs =
      let d = tells_built t (work (pairs xs None ∷ ps) whole) in
      let c = tells_built u (work (pairs xs (Some k) ∷ ps) whole) in
      let x = pairs_lead {ps = ps} {whole = whole} ts (xs ++ (k, e) ∷ []) in
      record {
        come = then_come (tells_come t in_map) (subst (λ w. MayAllCome w (ws ++ ys)) (sym d)
            (then_come (tells_come u in_map) (subst (λ w. MayAllCome w ys) (sym c) x.come)));
        part = x.part;
        led =
            all_told-append (work (pairs xs None ∷ ps) whole) us (ws ++ ys) ∙ ap (λ w. all_told w (ws ++ ys)) d
            ∙ all_told-append (work (pairs xs (Some k) ∷ ps) whole) ws ys ∙ ap (λ w. all_told w ys) c ∙ x.led;
        may_end = x.may_end;
      }

  fields_lead : {fs : Fields} {us : List Event} {ps : List OpenPart} {whole : Option Tree} → FieldsHaveEvents fs us
      → (xs : List (ℕ × Tree)) → Lead (fields xs None) ps whole us
  fields_lead tell_no_field xs = record { come = none_comes; part = fields xs None; led = refl; may_end = of_struct }
  fields_lead {ps = ps} {whole = whole} (tell_field {f = f} {v = v} {us = us} {ws = ws} t ts) xs =
      let e = tells_built t (work (fields xs (Some f) ∷ ps) whole) in
      let x = fields_lead {ps = ps} {whole = whole} ts (xs ++ (f, v) ∷ []) in
      record {
        come = comes a_field (then_come (tells_come t in_struct) (subst (λ w. MayAllCome w ws) (sym e) x.come));
        part = x.part;
        led = all_told-append (work (fields xs (Some f) ∷ ps) whole) us ws ∙ ap (λ w. all_told w ws) e ∙ x.led;
        may_end = x.may_end;
      }
