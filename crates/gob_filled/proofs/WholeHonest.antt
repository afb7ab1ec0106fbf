-- The place of a refusal is honest in the whole value of an item.
use Rattle.std.proofs.Common.{◌≡◌, ◌≢◌, ℕ, ◌+◌, ◌-◌, ◌<◌, ◌≤◌, inl, inr, List, [], ◌∷◌, ◌++◌, length, take, arith, refl}
use Rattle.std.proofs.Common.{sym, ap, ◌∙◌, subst, append_assoc, length-append}
use Rattle.std.proofs.Math.Seq.{take-append-add, take-append_seam}
use Rattle.std.proofs.lemmas.Bool.{cases_lt}
use Rattle.gob_num.specs.Unsigned.{IsUnsigned}
use Rattle.gob_num.proofs.PublicLaws.{bad_head_none, not_minimal_none}
use Rattle.gob_types.specs.declared.id.TypeId.{TypeId}
use Rattle.gob_types.specs.declared.reason.Reason.TheVariants as reason
use Rattle.gob_types.specs.Base.{base_table}
use Rattle.gob_types.specs.Table.{Table}
use Rattle.gob_types.specs.Ready.{IsReady}
use Rattle.gob_types.proofs.PublicLaws.{base_is_table}
use Rattle.gob_value.specs.Tree.{Tree, depth}
use Rattle.gob_value.specs.Top.{SpellsTop}
use Rattle.gob_num.specs.Unsigned as unsigned
use Rattle.gob_read.specs.Expected.{Expected, Allowed, a_number, any, tag, truth_value, array_count, delta, nil}
use Rattle.gob_read.specs.Expected.{reason_of}
use Rattle.gob_read.specs.Expects.{ExpectsTop}
use Rattle.gob_read.specs.Viable.{IsShallow}
use Rattle.gob_read.specs.Begins.{BeginsValue}
use Rattle.gob_read.specs.Laws.{IsOfNumber, HasCountedArrays}
use Rattle.gob_read.specs.Refusal as body
use Rattle.gob_read.specs.Refusal.{Refused, extra, too_deep, short_of, bad_head_at, not_minimal_at, not_allowed}
use Rattle.gob_read.proofs.PublicLaws.{first_honest, table_counted, prefix_of, rest_behind, append_nil, expects_once}
use Rattle.gob_read.proofs.Grammar.Compare.{whole_meets_top, unmet_once, unmet_behind}
use Rattle.gob_read.proofs.Grammar.Complete.{expects_begins}
use Rattle.gob_read.proofs.Grammar.Deep.{expects_top_within}
use Rattle.gob_read.proofs.Grammar.Firsts.{bad_not_met, minimal_not_met, not_allowed_not_met, met_number}
use Rattle.gob_read.proofs.Grammar.Seen.{shared, shared_prefix, bad_again, minimal_again}
use Rattle.gob_read.proofs.Grammar.Whole.{Meets, number_met}
use Rattle.gob_stream.specs.declared.fault.Refusal.{Refusal}
use Rattle.gob_stream.specs.Bounds.{Bounds}
use Rattle.gob_filled.specs.Filled.{Fillings, no_filling}
use Rattle.gob_filled.specs.Stream.{FilledItem, FilledStream}
use Rattle.gob_filled.specs.Standing.{Level, Next, in_value, in_filling, Stands, at_value, behind_name}
use Rattle.gob_filled.specs.Standing.{behind_definition, at_inner, behind_inner}
use Rattle.gob_filled.specs.Uncounted.{SpellsUncounted, FillsUncounted, as_it_stands, next_filled, BeginsFilledValue}
use Rattle.gob_filled.specs.Uncounted.{type_of, uncounted}
use Rattle.gob_filled.specs.Outcome.{RefusesAt, in_skeleton, short_name}
use Rattle.gob_filled.specs.Honest.{IsCountedFrom, IsHonestValue}
use Rattle.gob_filled.proofs.Prefix.{unmet, further}
use Rattle.gob_filled.proofs.Honest.{AreOfTables, and_level, levels_tables, items_table}
use Rattle.gob_filled.proofs.Uncounted.{Goes, Ends, goes_to_whole, goes_on}

-- ---- where levels have come to

-- behind these bytes a nil comes next, and nothing that they show is too deep
record IsAtNil (T : Table) (t : TypeId) (limit : ℕ) (p : List ℕ) : Type 0 where
  pub depth : ℕ
  pub expects : ExpectsTop T t p (a_number nil) depth
  pub low : depth ≤ limit
  pub shallow : IsShallow T t limit p

-- of the innermost level nothing is read yet, or last a nil that was filled
data IsBehindNil (T : Table) (t : TypeId) (limit : ℕ) (done : List ℕ) : Type 0 where
  nothing_read : done ≡ [] → IsBehindNil T t limit done
  nil_read : (before : List ℕ) → done ≡ before ++ 0 ∷ [] → IsAtNil T t limit before → IsBehindNil T t limit done

abbrev AreAtNil : List Level → Type 0
AreAtNil [] = Unit {0}
AreAtNil (lv ∷ levels) = IsAtNil lv.table lv.type lv.limit lv.done × AreAtNil levels

abbrev HasCome : Level → Next → Type 0
HasCome lv in_value = IsBehindNil lv.table lv.type lv.limit lv.done
HasCome lv (in_filling d) = IsAtNil lv.table lv.type lv.limit lv.done

levels_come : {base : Table} {L : Bounds} {T : Table} {offset : ℕ} {z : List ℕ} {U : Table} {lv : Level}
    {levels : List Level} {next : Next} {left : ℕ} → Stands base L T offset z U (lv ∷ levels) next left
    → HasCome lv next × AreAtNil levels
levels_come (at_value u l e s sg short may k) = (nothing_read refl, tt)
levels_come (behind_name c s p ex dl sh some u fit) =
    (record { depth = _; expects = ex; low = dl; shallow = sh }, (levels_come p).1)
levels_come (behind_definition p def e k) = levels_come p
levels_come (at_inner p may sg u e l) = (nothing_read refl, levels_come p)
levels_come (behind_inner {around = around} b p sp de e) =
    let k = (levels_come p).1 in (nil_read around.done refl k.0, k.1)

-- ---- what is refused stands behind what is read of the level

nil_met : (x : List ℕ) → Meets (a_number nil) (0 ∷ x)
nil_met x = number_met {c = 0 ∷ []} x refl (unsigned.short (omega arith))

behind_nil : {T : Table} {t : TypeId} {limit d : ℕ} {done p : List ℕ} {u : Expected} (x r : List ℕ)
    → IsBehindNil T t limit done → ExpectsTop T t p u d → done ++ x ≡ p ++ r → ¬ Meets u r → length done ≤ length p
behind_nil x r (nothing_read e) ex h m = omega (arith, ap length e)
behind_nil {T = T} {t = t} {d = d} {done = done} {p = p} {u = u} x r (nil_read before e k) ex h m =
    let f = prefix_of before p (0 ∷ x) r same (unmet_behind (0 ∷ x) r k.expects ex same m) in
    by f.rest f.whole (rest_behind before p (0 ∷ x) r same f)
  where
    same : before ++ (0 ∷ x) ≡ p ++ r
    same = sym (append_assoc before (0 ∷ []) x) ∙ ap (λ (l : List ℕ). l ++ x) (sym e) ∙ h

    by : (l : List ℕ) → p ≡ before ++ l → 0 ∷ x ≡ l ++ r → length done ≤ length p
    by [] g n =
        let at : p ≡ before = g ∙ append_nil before in
        let one = expects_once k.expects (subst (λ p. ExpectsTop T t p u d) at ex) in
        absurd (m (subst (λ u. Meets u r) one.0 (subst (Meets (a_number nil)) n (nil_met x))))
    by (y ∷ l) g n = omega (
      arith,
      ap length g,
      ap length e,
      length-append before (0 ∷ []),
      length-append before (y ∷ l),
    )

deep_behind_nil : {T : Table} {t : TypeId} {limit d : ℕ} {done p : List ℕ} {u : Expected} (x r : List ℕ)
    → IsBehindNil T t limit done → ExpectsTop T t p u d → done ++ x ≡ p ++ r → limit < d → length done ≤ length p
deep_behind_nil x r (nothing_read e) ex h l = omega (arith, ap length e)
deep_behind_nil {T = T} {t = t} {limit = limit} {d = d} {done = done} {p = p} {u = u} x r (nil_read before e k) ex h l =
    elim (cases_lt (length p) (length done)) [
      | inr n ↦ n
      | inl n ↦
          let size : length p ≤ length before = omega (arith, ap length e, length-append before (0 ∷ [])) in
          let f = prefix_of p before r (0 ∷ x) (sym same) size in
          absurd (by f.rest f.whole)
    ]
  where
    same : before ++ (0 ∷ x) ≡ p ++ r
    same = sym (append_assoc before (0 ∷ []) x) ∙ ap (λ (l : List ℕ). l ++ x) (sym e) ∙ h

    by : (s : List ℕ) → before ≡ p ++ s → ⊥
    by [] g =
        let at : p ≡ before = sym (g ∙ append_nil p) in
        let one = expects_once k.expects (subst (λ p. ExpectsTop T t p u d) at ex) in
        let low = k.low in
        let same_depth = one.1 in omega arith
    by (y ∷ s) g = let low = k.shallow.each p (y ∷ s) u d ex g (λ z. cc) in omega arith

-- ---- no filled value goes on there

grouped : (c a s e n f m g : List ℕ) → (c ++ (a ++ (s ++ (e ++ (n ++ (f ++ m)))))) ++ g ≡ c ++
    (a ++ (s ++ (e ++ (n ++ (f ++ (m ++ g))))))
grouped c a s e n f m g = simp append_assoc

-- where a number stands that isn't allowed; none does in the place of a nil
record IsRefusedNumber (a : Allowed) (y : List ℕ) : Type 0 where
  pub unmet : ¬ Meets (a_number a) y
  pub none : a ≡ nil → (n : ℕ) (c r : List ℕ) → y ≡ c ++ r → IsUnsigned n c → ⊥

no_number : {base : Table} {M : Bounds} {U X T : Table} {t : TypeId} {d k : ℕ} {v : Tree} {fs : Fillings}
    {done left ms : List ℕ} {a : Allowed} (c y g : List ℕ) → SpellsTop T t v (done ++ left)
    → FillsUncounted base M T t U done left fs k ms X → ExpectsTop T t (done ++ c) (a_number a) d → IsRefusedNumber a y
    → c ++ y ≡ ms ++ g → ⊥
no_number {done = done} {left = left} c y g sp as_it_stands ex h e =
    h.unmet (whole_meets_top y g sp ex (further done c y ∙ ap (λ (l : List ℕ). done ++ l) e
    ∙ sym (further done left g)))
no_number {done = done} c y g sp
    (next_filled {s = s} {a = count} {e = e'} {n = n} {f = f} {ms = ms} c' ex' some u defs may sg vs fl) ex h e =
    let z = s ++ (e' ++ (n ++ (f ++ (ms ++ g)))) in
    let one = unmet_once y (count ++ z) ex ex' (further done c y
    ∙ ap (λ (l : List ℕ). done ++ l) (e ∙ grouped c' count s e' n f ms g) ∙ sym (further done c' (count ++ z)))
    h.unmet (unmet s z some u) in
    h.none (is_nil (ap (λ (v : Expected × ℕ). v.0) one.value)) (length s) count z one.rest u
  where
    is_nil : {a b : Allowed} → a_number a ≡ a_number b → a ≡ b
    is_nil e = cc

-- nor one whose parts are within the limit, where a part is too deep
no_depth : {base : Table} {M : Bounds} {U X T : Table} {t : TypeId} {limit d k : ℕ} {v : Tree} {fs : Fillings}
    {done left ms : List ℕ} {w : Expected} (c y g : List ℕ) → SpellsTop T t v (done ++ left)
    → FillsUncounted base M T t U done left fs k ms X → depth v ≤ limit → ExpectsTop T t (done ++ c) w d → limit < d
    → c ++ y ≡ ms ++ g → ⊥
no_depth {done = done} {left = left} c y g sp as_it_stands low ex l e =
    let n = expects_top_within y g sp ex (further done c y ∙ ap (λ (l : List ℕ). done ++ l) e
    ∙ sym (further done left g)) in omega arith
no_depth {done = done} c y g sp
    (next_filled {left = left} {s = s} {a = count} {e = e'} {n = n} {f = f} {ms = ms} c' ex' some u defs may sg vs fl)
    low ex l e =
    let z = s ++ (e' ++ (n ++ (f ++ (ms ++ g)))) in
    let same = further done c y ∙ ap (λ (l : List ℕ). done ++ l) (e ∙ grouped c' count s e' n f ms g)
    ∙ sym (further done c' (count ++ z)) in
    let f = prefix_of (done ++ c) (done ++ c') y (count ++ z) same
    (unmet_behind y (count ++ z) ex ex' same (unmet s z some u)) in
    let n = expects_top_within (f.rest ++ (0 ∷ left)) [] sp ex
    (sym (append_assoc (done ++ c) f.rest (0 ∷ left)) ∙ ap (λ (l : List ℕ). l ++ (0 ∷ left)) (sym f.whole)
    ∙ further done c' (0 ∷ left) ∙ sym (append_nil (done ++ (c' ++ (0 ∷ left))))) in
    omega arith

-- ---- the levels around can go on

record NilBegins (T : Table) (t : TypeId) (p : List ℕ) : Type 0 where
  pub value : Tree
  pub rest : List ℕ
  pub spelled : SpellsTop T t value ((p ++ 0 ∷ []) ++ rest)

nil_first : {r : List ℕ} → Meets (a_number nil) r → (x : List ℕ) × (r ≡ 0 ∷ x)
nil_first m = let k = met_number m in (k.rest, k.whole ∙ ap (λ (l : List ℕ). l ++ k.rest) (one k.spelled k.allowed))
  where
    one : {n : ℕ} {c : List ℕ} → IsUnsigned n c → n ≡ 0 → c ≡ 0 ∷ []
    one (unsigned.short l) e = ap (λ (n : ℕ). n ∷ []) e
    one (unsigned.long l) e = absurd (let m = l.large in omega arith)

nil_begins : {T : Table} {t : TypeId} {p : List ℕ} {d : ℕ} → HasCountedArrays T → IsReady T t
    → ExpectsTop T t p (a_number nil) d → NilBegins T t p
nil_begins {T = T} {t = t} {p = p} l i ex =
    let b = expects_begins l i ex in
    let m = whole_meets_top b.rest [] b.spelled ex (sym (append_nil (p ++ b.rest))) in
    let n = nil_first m in
    record {
      value = b.value;
      rest = n.0;
      spelled = subst (λ b'. SpellsTop T t b.value b') (ap (λ (l : List ℕ). p ++ l) n.1
          ∙ sym (append_assoc p (0 ∷ []) n.0)) b.spelled;
    }

record CanEnd (base : Table) (L : Bounds) (levels : List Level) (U : Table) : Type 0 where
  pub text : List ℕ
  pub ends : Ends base L ⊥ levels U text

can_end : (base : Table) (L : Bounds) (U : Table) (levels : List Level) → AreOfTables levels → AreAtNil levels
    → CanEnd base L levels U
can_end base L U [] k a = record { text = []; ends = refl }
can_end base L U (around ∷ levels) (and_level k ks) a =
    let b = nil_begins (table_counted k.is_table) k.ready a.0.expects in
    let r = can_end base L U levels ks a.1 in
    record {
      text = b.rest ++ r.text;
      ends = record {
        value = b.value;
        rest = b.rest;
        fillings = no_filling;
        depth_of = 0;
        text = b.rest;
        behind = U;
        others = r.text;
        spelled = b.spelled;
        fills = as_it_stands;
        low = λ z. absurd z;
        fillings_low = λ z. absurd z;
        around = r.ends;
        whole = refl;
      };
    }

-- ---- the refusal

-- the first bytes of two lists, and of the second alone
taken : (p x : List ℕ) {place : ℕ} (j : ℕ) → place ≡ length p + j → take place (p ++ x) ≡ p ++ take j x
taken p x j e = ap (λ n. take n (p ++ x)) e ∙ take-append-add p x j

-- the bytes before the place begin a filled value
begins : {L : Bounds} {T : Table} {offset : ℕ} {z : List ℕ} {U : Table} {lv : Level} {levels : List Level}
    {left place at : ℕ} (w : List ℕ) (j : ℕ) (p : Stands base_table L T offset z U (lv ∷ levels) in_value left)
    → AreOfTables levels → BeginsValue lv.table lv.type (take at (lv.done ++ w)) → at ≡ length lv.done + j
    → place ≡ length (uncounted p) + j → BeginsFilledValue base_table T (type_of p) (take place (uncounted p ++ w))
begins {L = L} {T = T} {U = U} {lv = lv} {levels = levels} w j p k b e f =
    let r = can_end base_table L U levels k (levels_come p).1 in
    let rest = take j w ++ b.rest in
    let whole = goes_to_whole (rest ++ r.text) p (record {
      value = b.value;
      rest = rest;
      fillings = no_filling;
      depth_of = 0;
      text = rest;
      behind = U;
      others = r.text;
      spelled = subst (λ b'. SpellsTop lv.table lv.type b.value b') (ap (λ (l : List ℕ). l ++ b.rest)
          (taken lv.done w j e) ∙ append_assoc lv.done (take j w) b.rest) b.spelled;
      fills = as_it_stands;
      low = λ z. absurd z;
      fillings_low = λ z. absurd z;
      around = r.ends;
      whole = refl;
    }) in
    record {
      bounds = L;
      value = whole.value;
      deepest = whole.deepest;
      rest = b.rest ++ r.text;
      behind = whole.behind;
      spelled = subst (λ b'. SpellsUncounted base_table L T (type_of p) whole.value whole.deepest b' whole.behind)
          (regrouped (uncounted p) (take j w) b.rest r.text ∙ ap (λ (l : List ℕ). l ++ (b.rest ++ r.text))
          (sym (taken (uncounted p) w j f))) whole.spelled;
    }
  where
    regrouped : (q c b r : List ℕ) → q ++ ((c ++ b) ++ r) ≡ (q ++ c) ++ (b ++ r)
    regrouped q c b r = simp append_assoc

-- where a level can't go on from some bytes, no filled value begins with them
none_begins : {L : Bounds} {T : Table} {offset : ℕ} {z : List ℕ} {U : Table} {lv : Level} {levels : List Level}
    {left seen : ℕ} (w : List ℕ) (j : ℕ) (p : Stands base_table L T offset z U (lv ∷ levels) in_value left)
    → seen ≡ length (uncounted p) + j
    → ((M : Bounds) (x : List ℕ) → ¬ Goes base_table M ⊥ U lv (Ends base_table M ⊥ levels) (take j w ++ x))
    → ¬ BeginsFilledValue base_table T (type_of p) (take seen (uncounted p ++ w))
none_begins {lv = lv} w j p e f b =
    f b.bounds b.rest (goes_on (take j w ++ b.rest) p b.spelled (λ z. absurd z)
    (ap (λ (l : List ℕ). l ++ b.rest) (taken (uncounted p) w j e) ∙ append_assoc (uncounted p) (take j w) b.rest))

-- nor one that is within the limit where it can't go on within its limit
deep_begins : {L : Bounds} {T : Table} {offset : ℕ} {z : List ℕ} {U : Table} {lv : Level} {levels : List Level}
    {left place : ℕ} (w : List ℕ) (j : ℕ) (p : Stands base_table L T offset z U (lv ∷ levels) in_value left)
    → place ≡ length (uncounted p) + j
    → ((M : Bounds) (x : List ℕ) → ¬ Goes base_table M (Unit {0}) U lv (Ends base_table M (Unit {0}) levels)
    (take j w ++ x))
    → (b : BeginsFilledValue base_table T (type_of p) (take place (uncounted p ++ w))) → L.depth < b.deepest
deep_begins {L = L} w j p e f b =
    elim (cases_lt L.depth b.deepest) [
      | inl l ↦ l
      | inr l ↦ absurd (f b.bounds b.rest (goes_on (take j w ++ b.rest) p b.spelled (λ z. l)
          (ap (λ (l : List ℕ). l ++ b.rest) (taken (uncounted p) w j e)
          ∙ append_assoc (uncounted p) (take j w) b.rest)))
    ]

-- what a refusal of a number in the level shows: it isn't before what is read, and no value goes on there
record IsShownNumber (lv : Level) (w : List ℕ) (place seen : ℕ) : Type 1 where
  pub behind : length lv.done ≤ place
  pub further : place ≤ seen
  pub none : {base : Table} {M : Bounds} {A : Type 0} {U : Table} {Around : Table → List ℕ → Type 0} (x : List ℕ)
      → ¬ Goes base M A U lv Around (take (seen - length lv.done) w ++ x)

shown_number : {lv : Level} {w p r : List ℕ} {a : Allowed} {d : ℕ} (k : ℕ)
    → IsBehindNil lv.table lv.type lv.limit lv.done → ExpectsTop lv.table lv.type p (a_number a) d
    → lv.done ++ w ≡ p ++ r → ¬ Meets (a_number a) r → ((x : List ℕ) → IsRefusedNumber a (take k r ++ x))
    → IsShownNumber lv w (length p) (length p + k)
shown_number {lv = lv} {w = w} {p = p} {r = r} {a = a} {d = d} k come ex e m h =
    let low = behind_nil w r come ex e m in
    let f = prefix_of lv.done p w r e low in
    let there : w ≡ f.rest ++ r = rest_behind lv.done p w r e f in
    let size : length p + k - length lv.done ≡ length f.rest + k =
    omega (arith, ap length f.whole, length-append lv.done f.rest) in
    record {
      behind = low;
      further = omega arith;
      none = λ x g. no_number f.rest (take k r ++ x) g.others g.spelled g.fills
          (subst (λ p. ExpectsTop lv.table lv.type p (a_number a) d) f.whole ex) (h x)
          (sym (shared w f.rest r x k there) ∙ ap (λ n. take n w ++ x) (sym size) ∙ g.whole);
    }

number_shown : {lv : Level} {w : List ℕ} {announced : ℕ} {Q : body.Refusal}
    → IsBehindNil lv.table lv.type lv.limit lv.done → Refused lv.table lv.type lv.limit announced (lv.done ++ w) Q
    → Q.reason ≢ reason.InterfaceValue → IsOfNumber Q.reason → IsShownNumber lv w Q.place Q.seen
number_shown come (extra r v e l) n i = absurd i
number_shown come (too_deep r a e l) n i = absurd i
number_shown come (short_of r a e m h) n i = absurd i
number_shown come (bad_head_at r {a = a} ex e h) n i =
    shown_number 1 come ex e (bad_not_met h) (λ x. record {
      unmet = bad_not_met (bad_again r x h);
      none = λ z n c y k u. bad_head_none (take 1 r ++ x) (bad_again r x h) [] y u (append_nil (take 1 r ++ x) ∙ k);
    })
number_shown come (not_minimal_at r {a = a} ex e h) n i =
    shown_number 2 come ex e (minimal_not_met h) (λ x. record {
      unmet = minimal_not_met (minimal_again r x h);
      none = λ z n c y k u. not_minimal_none (take 2 r ++ x) (minimal_again r x h) [] y u
          (append_nil (take 2 r ++ x) ∙ k);
    })
number_shown come (not_allowed {c = c} r {a = a} ex e u h) n i =
    shown_number (length c) come ex e (not_allowed_not_met r u h) (λ x. record {
      unmet = subst (λ y. ¬ Meets (a_number a) y) (sym (ap (λ l. l ++ x) (take-append_seam c r)))
          (not_allowed_not_met x u h);
      none = λ z n' c' y k u'. n (ap reason_of z);
    })

-- a part that is too deep is refused whatever follows
record IsShownDeep (lv : Level) (w : List ℕ) (place : ℕ) : Type 1 where
  pub behind : length lv.done ≤ place
  pub none : {base : Table} {M : Bounds} {U : Table} {Around : Table → List ℕ → Type 0} (x : List ℕ)
      → ¬ Goes base M (Unit {0}) U lv Around (take (place - length lv.done) w ++ x)

no_deep_number : (a : Allowed) → reason_of a ≢ reason.TooDeep
no_deep_number any e = cc
no_deep_number tag e = cc
no_deep_number truth_value e = cc
no_deep_number (array_count n) e = cc
no_deep_number (delta n) e = cc
no_deep_number nil e = cc

deep_shown : {lv : Level} {w : List ℕ} {announced : ℕ} {Q : body.Refusal}
    → IsBehindNil lv.table lv.type lv.limit lv.done → Refused lv.table lv.type lv.limit announced (lv.done ++ w) Q
    → Q.reason ≡ reason.TooDeep → IsShownDeep lv w Q.place
deep_shown come (extra r v e l) i = cc
deep_shown {lv = lv} {w = w} come (too_deep {p = p} r {w = u} {d = d} ex e l) i =
    let low = deep_behind_nil w r come ex e l in
    let f = prefix_of lv.done p w r e low in
    let there : w ≡ f.rest ++ r = rest_behind lv.done p w r e f in
    let size : length p - length lv.done ≡ length f.rest =
    omega (arith, ap length f.whole, length-append lv.done f.rest) in
    record {
      behind = low;
      none = λ x g. no_depth f.rest x g.others g.spelled g.fills (g.low tt)
          (subst (λ p. ExpectsTop lv.table lv.type p u d) f.whole ex) l
          (sym (shared_prefix w f.rest r x there) ∙ ap (λ n. take n w ++ x) (sym size) ∙ g.whole);
    }
deep_shown come (short_of r a e n h) i = cc
deep_shown come (bad_head_at r a e h) i = cc
deep_shown come (not_minimal_at r a e h) i = cc
deep_shown come (not_allowed r {a = a} b e u h) i = absurd (no_deep_number a i)

nothing_said : {base T : Table} {t : TypeId} {limit : ℕ} {z : List ℕ} {S : body.Refusal} → ¬ IsOfNumber S.reason
    → S.reason ≢ reason.TooDeep → IsHonestValue base T t limit z S
nothing_said n d = record { number = λ i. absurd (n i); deep = λ e. absurd (d e) }

short_not_deep : reason.Short ≡ reason.TooDeep → ⊥
short_not_deep e = cc

at_honest : {L : Bounds} {T : Table} {offset : ℕ} {z : List ℕ} {U : Table} {lv : Level} {levels : List Level}
    {left at : ℕ} {w : List ℕ} {R : Refusal} {S : body.Refusal} → AreOfTables (lv ∷ levels)
    → (p : Stands base_table L T offset z U (lv ∷ levels) in_value left)
    → RefusesAt base_table L at U w (lv ∷ levels) in_value left R → IsCountedFrom (length (uncounted p)) at R S
    → IsHonestValue base_table T (type_of p) L.depth (uncounted p ++ take (lv.end - at) w) S
at_honest {at = at} {w = w} {S = S} (and_level i ks) p (in_skeleton {lv = lv} {S = Q} {R = R} h n pl se re) k =
    let place = k.place in
    let seen = k.seen in
    let come = (levels_come p).0 in
    let same : S.reason ≡ Q.reason = sym k.reason ∙ re in
    let honest = first_honest (table_counted i.is_table) i.ready h in
    let z = take (lv.end - at) w in
    record {
      number = λ e.
          let there = subst IsOfNumber same e in
          let shown = number_shown come h.refused n there in
          let behind = shown.behind in
          let further = shown.further in (
            begins z (Q.place - length lv.done) p ks (honest.number there).0 (omega arith) (omega arith),
            none_begins z (Q.seen - length lv.done) p (omega arith) (λ M x. shown.none x),
          );
      deep = λ e.
          let there = sym same ∙ e in
          let shown = deep_shown come h.refused there in
          let behind = shown.behind in (
            begins z (Q.place - length lv.done) p ks (honest.deep there).0 (omega arith) (omega arith),
            deep_begins z (Q.place - length lv.done) p (omega arith) (λ M x. shown.none x),
          );
    }
at_honest o p (short_name c r ex dl sh eq u full few) k =
    nothing_said (λ i. subst (λ r. IsOfNumber r) (sym k.reason) i) (λ e. short_not_deep (k.reason ∙ e))

pub whole_honest : {L : Bounds} {items : List FilledItem} {f y w : List ℕ} {T U : Table} {lv : Level}
    {levels : List Level} {left at : ℕ} {R : Refusal} {S : body.Refusal} → FilledStream base_table L items f T
    → (p : Stands base_table L T (length f) y U (lv ∷ levels) in_value left)
    → RefusesAt base_table L at U w (lv ∷ levels) in_value left R → IsCountedFrom (length (uncounted p)) at R S
    → IsHonestValue base_table T (type_of p) L.depth (uncounted p ++ take (lv.end - at) w) S
whole_honest s p h k = at_honest (levels_tables p (items_table s base_is_table)).1 p h k
