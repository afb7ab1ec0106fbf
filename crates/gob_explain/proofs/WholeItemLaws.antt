-- Lines show all of an item of Go's encoder.
use Rattle.std.proofs.Common.{◌≡◌, ℕ, ◌+◌, ◌*◌, ◌≤◌, List, [], ◌∷◌, ◌++◌, length, refl, sym, ap}
use Rattle.std.proofs.Common.{◌∙◌, subst, arith}
use Rattle.std.proofs.lemmas.List.{length-drop}
use Rattle.gob_num.specs.Unsigned.{IsUnsigned}
use Rattle.gob_num.proofs.PublicLaws.{signed_unsigned, unsigned_bytes}
use Rattle.gob_types.specs.Base.{wire_type}
use Rattle.gob_types.specs.Ready.{IsReady}
use Rattle.gob_types.specs.declared.id.TypeId.{TypeId}
use Rattle.gob_types.specs.Table.{Table}
use Rattle.gob_types.proofs.PublicLaws.{ready_on}
use Rattle.gob_value.specs.Top.{HasStructs, at_once}
use Rattle.gob_value.specs.Tree.{Tree}
use Rattle.gob_value.proofs.PublicLaws.{spells_on}
use Rattle.gob_stream.specs.Bounds.{Bounds}
use Rattle.gob_filled.specs.Definition.{defines}
use Rattle.gob_filled.specs.Stream.{FilledItem, IsFilledItem, of_definition, of_value}
use Rattle.gob_filled.proofs.Items.{segments_of}
use Rattle.gob_filled.proofs.Refused.{definition_keeps}
use Rattle.gob_explain.specs.declared.row.Row.{Row}
use Rattle.gob_explain.specs.Body.{EndsSo, begins_value}
use Rattle.gob_explain.specs.Items.{LineOfRest, LinesOfBody, LinesOfItem, NamesBody, ShowsItem}
use Rattle.gob_explain.specs.Items as items
use Rattle.gob_explain.specs.Walk.{RowsLead}
use Rattle.gob_explain.specs.Whole.{HasNoneDeeper, LeadsOverAll, ShowWholeItems, with_nils}
use Rattle.gob_explain.proofs.BetweenLaws.{number_left, only_left}
use Rattle.gob_explain.proofs.CountLaws.{behind_bytes, counted}
use Rattle.gob_explain.proofs.OneRunLaws.{one_sign, one_type}
use Rattle.gob_explain.proofs.RowLaws.{append_nil}
use Rattle.gob_explain.proofs.OverLaws.{lead_over_skeleton, lead_over_whole_values}

-- the item begins with a count, a type number and a body, and rows of this lead over all of it
record HasBody (T : Table) (item : List ℕ) (deepest : ℕ) : Type 0 where
  pub size : ℕ
  pub number : ℕ
  pub id : TypeId
  pub value : Tree
  pub count : List ℕ
  pub named : List ℕ
  pub body : List ℕ
  pub whole : item ≡ count ++ (named ++ body)
  pub counts : IsUnsigned size count
  pub numbers : IsUnsigned number named
  pub names : NamesBody named id
  pub leads : LeadsOverAll T id value body deepest

has_body : {base : Table} {L : Bounds} {T U : Table} {begin : ℕ} {i : FilledItem} {item : List ℕ}
    → HasStructs T wire_type → IsReady T wire_type → IsFilledItem base L T begin i item U → HasBody U item (3 * L.depth)
has_body {L = L} w y (of_definition {c = c} n l r (defines {v = v} {a = a} {b = b} may de ds is sg sp)) =
    let keeps = definition_keeps (defines may de ds is sg sp) in
    let top = at_once (keeps.shape wire_type w.shape w.found) w.struct (spells_on keeps sp) in
    let number = signed_unsigned sg in
    record {
      size = _;
      number = number.0;
      id = wire_type;
      value = v;
      count = c;
      named = a;
      body = b;
      whole = refl;
      counts = n;
      numbers = number.1;
      names = items.of_definition sg;
      leads = lead_over_skeleton (3 * L.depth) (ready_on keeps y) top (omega arith);
    }
has_body {base = base} {L = L} {T = T} {U = U} w y (of_value {t = t} {w = v} {a = a} {ls = ls} may sg sp cs) =
    let k = counted (segments_of cs) in
    let number = signed_unsigned sg in
    let p = behind_bytes a ls (unsigned_bytes number.1) k.has in
    let over = lead_over_whole_values base L T U t L.depth v ls p.0 w y may sp p.2 in
    let deep : 2 * L.depth + L.depth ≡ 3 * L.depth = omega arith in
    record {
      size = k.number;
      number = number.0;
      id = t;
      value = with_nils v;
      count = k.count;
      named = a;
      body = p.0;
      whole = k.whole ∙ ap (λ b. k.count ++ b) p.1;
      counts = k.counts;
      numbers = number.1;
      names = items.of_value sg;
      leads = subst (λ n. LeadsOverAll U t (with_nils v) p.0 n) deep over;
    }

one_name : {a b : List ℕ} {t u : TypeId} → a ≡ b → NamesBody a t → NamesBody b u → t ≡ u
one_name e (items.of_value s) (items.of_value r) = one_type [] [] (ap (λ l. l ++ []) e) s r
one_name e (items.of_value s) (items.of_definition r) = absurd (one_sign [] [] (ap (λ l. l ++ []) (sym e)) r s)
one_name e (items.of_definition s) (items.of_value r) = absurd (one_sign [] [] (ap (λ l. l ++ []) e) s r)
one_name e (items.of_definition s) (items.of_definition r) = refl

none_deeper : {m n : ℕ} → m ≤ n → (rows : List Row) → HasNoneDeeper m rows → HasNoneDeeper n rows
none_deeper l [] h = tt
none_deeper l (r ∷ rows) h = (omega (arith, h.0), none_deeper l rows h.1)

-- the lines of the body lead to its end
lines_end : {T : Table} {t u : TypeId} {v : Tree} {offset place deepest : ℕ} {b body text : List ℕ} → t ≡ u → b ≡ body
    → LeadsOverAll T u v body deepest → deepest ≤ 1000 → LinesOfBody T t offset b place text → place ≡ length body
lines_end {T = T} {t = t} {u = u} {place = place} {b = b} {body = body} e f k low
    (items.rows_lead rows opens whole lead ends lines) =
    let of_type = subst (λ t. RowsLead T b (begins_value t) 0 rows opens place) e lead in
    let so = subst (λ t. EndsSo T t b 1000 whole opens place) e ends in
    (k.stops 1000 place rows opens whole (none_deeper low k.rows k.deep)
    (subst (λ b. RowsLead T b (begins_value u) 0 rows opens place) f of_type)
    (subst (λ b. EndsSo T u b 1000 whole opens place) f so)).1

reach_end : {T : Table} {offset deepest place : ℕ} {item text : List ℕ} → HasBody T item deepest → deepest ≤ 1000
    → LinesOfItem T offset item place text → place ≡ length item
reach_end k low (items.no_count none) =
    absurd (none k.size _ (number_left k.count (k.named ++ k.body) (k.whole, omega arith) k.counts))
reach_end k low (items.no_type_number meaning n none) =
    let behind = only_left k.count (k.named ++ k.body) (k.whole, omega arith) k.counts n in
    absurd (none k.number _ (number_left k.named k.body behind.left k.numbers))
reach_end {item = item} k low (items.of_body {body = at} meaning named n m names lines) =
    let behind = only_left k.count (k.named ++ k.body) (k.whole, omega arith) k.counts n in
    let last = only_left k.named k.body behind.left k.numbers m in
    let end = lines_end (one_name last.bytes_are names k.names) last.left.0 k.leads low lines in
    let size = sym (length-drop at item) ∙ ap length last.left.0 in
    omega (arith, last.left.1)

nothing_left : {offset place : ℕ} {item text : List ℕ} → place ≡ length item → LineOfRest offset item place text
    → text ≡ []
nothing_left e (items.none_left l) = refl
nothing_left e (items.some_left meaning l) = absurd (omega arith)

pub show_whole_items : ShowWholeItems
show_whole_items base L T U begin offset i item text w y low it shows =
    let there = reach_end (has_body w y it) low shows.rows in
    let all : shows.lines ≡ text =
    sym (append_nil shows.lines) ∙ ap (λ l. shows.lines ++ l) (sym (nothing_left there shows.rest)) ∙ sym shows.all in
    subst (λ n. LinesOfItem U offset item n text) there
    (subst (λ l. LinesOfItem U offset item shows.reached l) all shows.rows)
