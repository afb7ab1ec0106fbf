-- Rows lead over all of a whole value of Go's encoder.
use Rattle.std.proofs.Common.{◌≡◌, ℕ, pos, negsuc, ◌+◌, ◌*◌, ◌<◌, ◌≤◌, List, [], ◌∷◌, ◌++◌, length}
use Rattle.std.proofs.Common.{refl, sym, ap, ◌∙◌, subst, arith, append_assoc}
use Rattle.gob_num.specs.Unsigned.{IsUnsigned, short}
use Rattle.gob_num.specs.Signed.{IsSigned}
use Rattle.gob_num.proofs.PublicLaws.{signed_unsigned, unsigned_bytes, unsigned_length}
use Rattle.gob_types.specs.Base.{wire_type}
use Rattle.gob_types.specs.Ready.{IsReady}
use Rattle.gob_types.specs.declared.id.TypeId.{TypeId}
use Rattle.gob_types.specs.Table.{Table}
use Rattle.gob_types.proofs.PublicLaws.{Keeps, ready_on}
use Rattle.gob_value.specs.Top.{HasStructs, SpellsTop, at_once}
use Rattle.gob_value.specs.Spelling.{Spells}
use Rattle.gob_value.specs.Tree.{Tree, depth}
use Rattle.gob_value.specs.Tree as Value
use Rattle.gob_value.proofs.PublicLaws.{spells_on, top_on}
use Rattle.gob_read.specs.Expected.{Expected, a_number, nil}
use Rattle.gob_read.specs.Expects.{Expects, ExpectsTop}
use Rattle.gob_read.specs.Expects as expects
use Rattle.gob_read.proofs.Grammar.Deep.{expects_top_within}
use Rattle.gob_read.proofs.Grammar.Stay.{expects_top_on}
use Rattle.gob_stream.specs.Bounds.{Bounds}
use Rattle.gob_filled.specs.Definition.{defines}
use Rattle.gob_filled.specs.Filled.{AreDefined, Definitions, Filled, Fillings, Fills, SpellsFilled}
use Rattle.gob_filled.specs.Filled.{as_it_stands, cut, next_filled, none_defined, one_defined, with_fillings}
use Rattle.gob_filled.proofs.Refused.{definition_keeps, in_turn}
use Rattle.gob_filled.proofs.Strict.{filled_keeps}
use Rattle.gob_explain.specs.Body.{begins_value}
use Rattle.gob_explain.specs.Laws.{Leads}
use Rattle.gob_explain.specs.Open.{Open, a_filling, a_value, content, count, description, name, segment, type_number}
use Rattle.gob_explain.specs.Rows.{leaf, row}
use Rattle.gob_explain.specs.declared.row.What.TheVariants as what
use Rattle.gob_explain.specs.Walk as walk
use Rattle.gob_explain.specs.Whole.{HasCounts, LeadOverWholeValues, LeadsOverAll, with_nils}
use Rattle.gob_explain.proofs.BetweenLaws.{IsLeft, none_left}
use Rattle.gob_explain.proofs.CountLaws.{behind_bytes, behind_cut, filling_parts, plain}
use Rattle.gob_explain.proofs.FrontLaws.{leads_on, leads_top, one_row}
use Rattle.gob_explain.proofs.OnwardLaws.{Goes, goes_lead, over}
use Rattle.gob_explain.proofs.RowLaws.{append_nil}
use Rattle.gob_explain.proofs.StrictRowLaws.{Gone, gone_end, gone_none, gone_row, gone_then, lead_on}
use Rattle.gob_explain.proofs.StrictRowLaws.{skeleton_gone, top_comes, whole_leads}

-- nil is expected in a part
part_some : {T : Table} {t : TypeId} {p : List ℕ} {w : Expected} {d : ℕ} → Expects T t p w d → 0 < d
part_some (expects.in_itself f a) = omega arith
part_some (expects.in_part f n a) = omega arith

nil_inside : {T : Table} {t : TypeId} {p : List ℕ} {w : Expected} {d : ℕ} → ExpectsTop T t p w d → w ≡ a_number nil
    → 0 < d
nil_inside (expects.in_struct f i a) e = part_some a
nil_inside (expects.at_tag f n) e = cc
nil_inside (expects.behind_tag f n a) e = part_some a

-- the table behind says what the one before says
defined_keep : {base : Table} {L : Bounds} {T U : Table} {ds : Definitions} {b : List ℕ} → AreDefined base L T ds b U
    → Keeps T U
defined_keep none_defined = record { shape = λ t s e. e }
defined_keep (one_defined o d ds) = in_turn (definition_keeps d) (defined_keep ds)

fills_keep : {base : Table} {L : Bounds} {T U V : Table} {t : TypeId} {limit : ℕ} {done left ls : List ℕ}
    {fs : Fillings} → Fills base L T t limit U done left fs ls V → Keeps U V
fills_keep (as_it_stands o) = record { shape = λ t s e. e }
fills_keep (next_filled c oc ex l o u ds may i vs g fl) =
    in_turn (defined_keep ds) (in_turn (filled_keeps vs) (fills_keep fl))

-- bytes one behind another
definition_bytes : {b r d : List ℕ} (a v c k rest : List ℕ) → b ≡ (a ++ v) ++ r → r ≡ c ++ k → d ≡ b ++ rest
    → d ≡ a ++ (v ++ (c ++ (k ++ rest)))
definition_bytes a v c k rest e f g =
    let all : ((a ++ v) ++ (c ++ k)) ++ rest ≡ a ++ (v ++ (c ++ (k ++ rest))) = simp append_assoc in
    cc

one_more : (done c left : List ℕ) → (done ++ (c ++ 0 ∷ [])) ++ left ≡ done ++ (c ++ 0 ∷ left)
one_more done c left = append_assoc done (c ++ 0 ∷ []) left ∙ ap (λ l. done ++ l) (append_assoc c (0 ∷ []) left)

-- rows lead to an interface, and over nil there
nil_leads : {T : Table} {t : TypeId} {d : ℕ} (done c : List ℕ) → ExpectsTop T t (done ++ c) (a_number nil) d
    → Leads T t [] (done ++ (c ++ 0 ∷ []))
nil_leads {T = T} {t = t} {d = d} done c x =
    subst (λ q. Leads T t [] q) (append_assoc done c (0 ∷ []))
    (leads_on T t [] (done ++ c) (0 ∷ []) (leads_top T t (done ++ c) (a_number nil) d x)
    (one_row T t (done ++ c) (row d (leaf Value.nil) (0 ∷ [])) (a_number nil, x, (0, short (omega arith), refl))))

module _ (F : Table) (bytes : List ℕ) (most : ℕ) (w : HasStructs F wire_type) (y : IsReady F wire_type) where
  -- rows lead over the type number of a definition and its description, up to where the rest is left
  described_gone : {n : ℕ} {v : Tree} (u : TypeId) (a b rest : List ℕ) (deep at : ℕ) (outer : List Open)
      → IsSigned (negsuc n) a → Spells F wire_type v b → deep + depth v ≤ most → IsLeft bytes at (a ++ (b ++ rest))
      → Gone F bytes most (a_filling u deep type_number ∷ outer) at (a_filling u deep segment ∷ outer) rest
  described_gone {v = v} u a b rest deep at outer i s low left =
      let top : SpellsTop F wire_type v b = at_once w.found w.struct s in
      let number = signed_unsigned i in
      let one = gone_row {T = F} {bytes = bytes} {most = most} {opens = a_filling u deep type_number ∷ outer}
      what.TypeNumber u deep number.0 at a (b ++ rest) left (unsigned_length number.1).0 (omega arith) tt
      (walk.of_definition (refl, refl, refl) number.1 i) in
      let two = skeleton_gone {most = most} {below = deep} {at = one.end} {outer = a_filling u deep description ∷ outer}
      bytes [] b [] rest y top low (whole_leads top) (append_nil b) one.left in
      gone_then one (gone_end two y (walk.description_ends top))

  -- over the count of the segment behind it
  segment_gone : {m : ℕ} (u : TypeId) (c rest : List ℕ) (deep at : ℕ) (outer : List Open) → IsUnsigned m c
      → deep ≤ most → IsLeft bytes at (c ++ rest)
      → Gone F bytes most (a_filling u deep segment ∷ outer) at (a_filling u deep type_number ∷ outer) rest
  segment_gone {m = m} u c rest deep at outer q low left =
      gone_row {T = F} {bytes = bytes} {most = most} {opens = a_filling u deep segment ∷ outer} what.Segment u deep m at
      c rest left (unsigned_length q).0 low tt (walk.of_segment (refl, refl, refl) q)

  -- over definitions in a filling
  defined_gone : {base : Table} {L : Bounds} {T U : Table} {ds : Definitions} {ls : List ℕ}
      → AreDefined base L T ds ls U → Keeps U F → (b rest : List ℕ) (u : TypeId) (deep at : ℕ) (outer : List Open)
      → deep + L.depth ≤ most → HasCounts ls b → IsLeft bytes at (b ++ rest)
      → Gone F bytes most (a_filling u deep type_number ∷ outer) at (a_filling u deep type_number ∷ outer) rest
  defined_gone none_defined k b rest u deep at outer low h left =
      gone_none most (left.0 ∙ ap (λ b. b ++ rest) (plain [] b tt h), left.1)
  defined_gone {L = L} (one_defined {c = c} o (defines {v = v} {a = a} {b = d} may de ds i sg sp) more) k b rest u deep
      at outer low h left =
      let p = behind_bytes (a ++ d) (cut ∷ c) o h in
      let q = behind_cut c p.2 in
      let keeps = in_turn (definition_keeps (defines may de ds i sg sp)) (in_turn (defined_keep more) k) in
      let here = described_gone u a d (q.1 ++ (q.2 ++ rest)) deep at outer sg (spells_on keeps sp) (omega arith)
      (definition_bytes a d q.1 q.2 rest p.1 q.4 left.0, left.1) in
      let behind = segment_gone u q.1 (q.2 ++ rest) deep here.end outer q.3 (omega arith) here.left in
      gone_then here (gone_then behind
      (defined_gone more k q.2 rest u deep behind.end outer low q.5 behind.left))

  -- over the count and the name of what an interface holds
  record NameGone (opens : List Open) (deep at : ℕ) (rest : List ℕ) : Type 0 where
    pub interface : TypeId
    pub gone : Gone F bytes most opens at (a_filling interface deep type_number ∷ opens) rest

  name_gone : {t : TypeId} {d : ℕ} (p a s rest : List ℕ) (below at : ℕ) (outer : List Open)
      → ExpectsTop F t p (a_number nil) d → IsReady F t → 0 < length s → IsUnsigned (length s) a
      → below + d + 1 ≤ most → IsLeft bytes at (a ++ (s ++ rest))
      → NameGone (a_value t below p ∷ outer) (below + d + 1) at rest
  name_gone {t = t} {d = d} p a s rest below at outer x ready some q low left =
      let so = top_comes x in
      let opens = a_value t below p ∷ outer in
      let one = gone_row {T = F} {bytes = bytes} {most = most} {opens = opens} so.what so.part (below + d) (length s) at
      a (s ++ rest) left (unsigned_length q).0 (omega arith) ready (walk.of_filling so.comes refl refl q some) in
      let two = gone_row {T = F} {bytes = bytes} {most = most}
      {opens = a_filling so.part (below + d + 1) (name (length s)) ∷ opens} what.Raw so.part (below + d + 1) (length s)
      one.end s rest one.left some low tt (walk.of_name (refl, refl, refl) refl refl) in
      record { interface = so.part; gone = gone_then one two }

  -- over the type number of what it holds and the count of the first segment
  type_gone : {v : TypeId} {m : ℕ} (u : TypeId) (n q rest : List ℕ) (deep at : ℕ) (outer : List Open)
      → IsSigned (pos v.0) n → IsUnsigned m q → deep ≤ most → IsLeft bytes at (n ++ (q ++ rest))
      → Gone F bytes most (a_filling u deep type_number ∷ outer) at (a_value v deep [] ∷ (a_filling u deep content
      ∷ outer)) rest
  type_gone {v = v} {m = m} u n q rest deep at outer i c low left =
      let number = signed_unsigned i in
      let one = gone_row {T = F} {bytes = bytes} {most = most} {opens = a_filling u deep type_number ∷ outer}
      what.TypeNumber u deep number.0 at n (q ++ rest) left (unsigned_length number.1).0 low tt
      (walk.of_type (refl, refl, refl) number.1 i) in
      gone_then one (gone_row {T = F} {bytes = bytes} {most = most} {opens = a_filling u deep (count v) ∷ outer}
      what.Segment u deep m one.end q rest one.left (unsigned_length c).0 low tt (walk.of_count (refl, refl, refl) c))

  -- over a whole value
  record WholeGone (t : TypeId) (v : Tree) (below : ℕ) (outer : List Open) (at : ℕ) (rest : List ℕ) : Type 0 where
    pub skeleton : List ℕ
    pub spelled : SpellsTop F t v skeleton
    pub gone : Gone F bytes most (a_value t below [] ∷ outer) at (a_value t below skeleton ∷ outer) rest

  -- over what fills an interface, where rows lead over the definitions in it and over what it holds
  filling_gone : {t u : TypeId} {v : Tree} {d m : ℕ} (p a s g n q h rest : List ℕ) (below at : ℕ) (outer : List Open)
      → ExpectsTop F t p (a_number nil) d → IsReady F t → IsReady F u → 0 < length s → IsUnsigned (length s) a
      → IsSigned (pos u.0) n → IsUnsigned m q → below + d + 1 ≤ most
      → ((v : TypeId) (at : ℕ) (outer : List Open) → IsLeft bytes at (g ++ (n ++ (q ++ (h ++ rest))))
      → Gone F bytes most (a_filling v (below + d + 1) type_number ∷ outer) at (a_filling v (below + d + 1) type_number
      ∷ outer) (n ++ (q ++ (h ++ rest))))
      → ((at : ℕ) (outer : List Open) → IsLeft bytes at (h ++ rest) → WholeGone u v (below + d + 1) outer at rest)
      → IsLeft bytes at (a ++ (s ++ (g ++ (n ++ (q ++ (h ++ rest))))))
      → Gone F bytes most (a_value t below p ∷ outer) at (a_value t below (p ++ 0 ∷ []) ∷ outer) rest
  filling_gone {d = d} p a s g n q h rest below at outer x ready held_ready some ua is c low definitions held left =
      let one = name_gone p a s (g ++ (n ++ (q ++ (h ++ rest)))) below at outer x ready some ua low left in
      let opens = a_value _ below p ∷ outer in
      let two = definitions one.interface one.gone.end opens one.gone.left in
      let three = type_gone one.interface n q (h ++ rest) (below + d + 1) two.end opens is c low two.left in
      let four = held three.end (a_filling one.interface (below + d + 1) content ∷ opens) three.left in
      gone_then one.gone (gone_then two (gone_then three
      (gone_end four.gone held_ready (walk.filling_ends four.spelled))))

  mutual
    value_gone : {base : Table} {L : Bounds} {T U : Table} {t : TypeId} {limit : ℕ} {v : Filled} {ls : List ℕ}
        → SpellsFilled base L T t limit v ls U → Keeps U F → IsReady F t → (b rest : List ℕ) (below at : ℕ)
        (outer : List Open) → below + (2 * limit + L.depth) ≤ most → HasCounts ls b → IsLeft bytes at (b ++ rest)
        → WholeGone t (with_nils v) below outer at rest
    value_gone (with_fillings {v = v} {b = d} sp de fl) k ready b rest below at outer low h left =
        let keeps = in_turn (filled_keeps (with_fillings sp de fl)) k in
        let whole = top_on keeps sp in
        record {
          skeleton = d;
          spelled = whole;
          gone = fills_gone fl keeps k ready v d whole de ([], tt, refl) refl b rest below at outer low h left;
        }

    -- over what is left of one
    fills_gone : {base : Table} {L : Bounds} {T U X : Table} {t : TypeId} {limit : ℕ} {fs : Fillings}
        {done end ls : List ℕ} → Fills base L T t limit U done end fs ls X → Keeps T F → Keeps X F → IsReady F t
        → (v : Tree) (whole : List ℕ) → SpellsTop F t v whole → depth v ≤ limit → Leads F t [] done
        → done ++ end ≡ whole → (b rest : List ℕ) (below at : ℕ) (outer : List Open)
        → below + (2 * limit + L.depth) ≤ most → HasCounts ls b → IsLeft bytes at (b ++ rest)
        → Gone F bytes most (a_value t below done ∷ outer) at (a_value t below whole ∷ outer) rest
    fills_gone {t = t} {done = done} {end = end} (as_it_stands o) kt k ready v whole sp de led e b rest below at outer
        low h left =
        let all : Leads F t [] (done ++ end) = subst (λ b. Leads F t [] b) (sym e) (whole_leads sp) in
        let is : b ≡ end = plain end b o h in
        subst (λ q. Gone F bytes most (a_value t below done ∷ outer) at (a_value t below q ∷ outer) rest) e
        (skeleton_gone bytes done end [] rest ready sp (omega arith) (lead_on done end led all)
        (ap (λ l. done ++ l) (append_nil end) ∙ e) (left.0 ∙ ap (λ b. b ++ rest) is, left.1))
    fills_gone {L = L} {t = t} {limit = limit} {done = done}
        (next_filled {u = u} {d = d} {left = end} {s = s} {a = a} {e = defs} {n = n} {f = f} {ls = ls} {ms = ms} c oc ex
        l os ua ds may is vs seg fl) kt k ready v whole sp de led e b rest below at outer low h left =
        let o = unsigned_bytes (signed_unsigned is).1 in
        let p = filling_parts c a s defs n ms oc (unsigned_bytes ua) os o seg h in
        let x = expects_top_on kt ex in
        let some = nil_inside x refl in
        let deepest = expects_top_within (0 ∷ end) [] sp x (append_assoc done c (0 ∷ end) ∙ e ∙ sym (append_nil
        whole)) in
        let keeps = in_turn (fills_keep fl) k in
        let held_keeps = in_turn (filled_keeps vs) keeps in
        let held_ready = ready_on held_keeps may.ready in
        let last = p.after ++ rest in
        let filling = a ++ (s ++ (p.defined ++ (n ++ (p.count ++ (p.held ++ last))))) in
        let before = skeleton_gone {most = most} {below = below} {at = at} {outer = outer} bytes done c (0 ∷ end)
        filling ready sp (omega arith) (lead_on done c led (leads_top F t (done ++ c) (a_number nil) d x)) e
        (left.0 ∙ p.all rest, left.1) in
        let there = filling_gone (done ++ c) a s p.defined n p.count p.held last below before.end outer x ready
        held_ready l ua is p.counts (omega arith)
        (λ v at outer left. defined_gone ds held_keeps p.defined (n ++ (p.count ++ (p.held ++ last))) v (below + d + 1)
        at outer (omega arith) p.has_defined left)
        (λ at outer left. value_gone vs keeps held_ready p.held last (below + d + 1) at outer (omega arith) p.has_held
        left) before.left in
        let here = subst (λ q. Gone F bytes most (a_value t below (done ++ c) ∷ outer) before.end (a_value t below q
        ∷ outer) last) (append_assoc done c (0 ∷ [])) there in
        gone_then before (gone_then here (fills_gone fl kt k ready v whole sp de (nil_leads done c x)
        (one_more done c end ∙ e) p.after rest below here.end outer low p.has_after here.left))

-- rows that go over all of a whole value lead over all of it
over_all : {T : Table} {t : TypeId} {v : Tree} {skeleton body : List ℕ} {deepest : ℕ} → IsReady T t
    → SpellsTop T t v skeleton → Gone T body deepest (begins_value t) 0 (a_value t 0 skeleton ∷ []) []
    → LeadsOverAll T t v body deepest
over_all {T = T} {t = t} {v = v} {skeleton = skeleton} {body = body} ready sp g =
    let last = a_value t 0 skeleton ∷ [] in
    let goes = subst (λ e. Goes T body (begins_value t) 0 g.rows last e) (none_left body g.end g.left) g.goes in
    record {
      rows = g.rows;
      skeleton = skeleton;
      spelled = sp;
      lead = goes_lead goes;
      deep = g.low;
      stops = over ready goes (record { skeleton = skeleton; value = v; spelled = sp; open_ = refl });
    }

-- all of the body is left at its begin
all_left : (body : List ℕ) → IsLeft body 0 (body ++ [])
all_left body = (sym (append_nil body), omega arith)

structs_on : {T U : Table} → Keeps T U → HasStructs T wire_type → HasStructs U wire_type
structs_on k w = record { shape = w.shape; found = k.shape wire_type w.shape w.found; struct = w.struct }

pub lead_over_whole_values : LeadOverWholeValues
lead_over_whole_values base L T U t limit v letters body w y may sp h =
    let k = filled_keeps sp in
    let ready = ready_on k may.ready in
    let g = value_gone U body (2 * limit + L.depth) (structs_on k w) (ready_on k y) sp
    (record { shape = λ t s e. e }) ready body [] 0 0 [] (omega arith) h (all_left body) in
    over_all ready g.spelled g.gone

-- rows lead over all of a value in which no interface holds another
pub lead_over_skeleton : {T : Table} {t : TypeId} {v : Tree} {body : List ℕ} (deepest : ℕ) → IsReady T t
    → SpellsTop T t v body → depth v ≤ deepest → LeadsOverAll T t v body deepest
lead_over_skeleton {body = body} deepest ready sp low =
    over_all ready sp (skeleton_gone {most = deepest} {below = 0} {outer = []} body [] body [] [] ready sp (omega arith)
    (whole_leads sp) (append_nil body) (all_left body))
