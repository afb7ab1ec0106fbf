-- Line by line the run over shown lines goes on.
use Rattle.std.proofs.Common.{◌≡◌, ◌≢◌, ℕ, ◌+◌, List, [], ◌∷◌, ◌++◌, length, take, drop, Option, Some, Result, Ok}
use Rattle.std.proofs.Common.{Err, refl, sym, ap, subst, ◌∙◌, inl, inr, length-append}
use Rattle.std.specs.Io.KnownBytes.{Appends, Keeps}
use Rattle.std.specs.Prelude.{Bool}
use Rattle.std.specs.Str.{IsUtf8}
use Rattle.std.proofs.KnownBytes.{Appends-nil, Appends-trans, Appends-kept, Keeps-refl, Keeps-trans}
use Rattle.gob_types.specs.Base.{base_table}
use Rattle.gob_types.specs.Table.{Table}
use Rattle.gob_stream.specs.Bounds.{Bounds}
use Rattle.gob_stream.specs.Calls.Waiting.{waiting}
use Rattle.gob_stream.specs.declared.waiting.Waiting.{Waiting}
use Rattle.gob_filled.specs.Stream.{FilledItem, FilledStream, no_more}
use Rattle.gob_write.specs.Lines.{AreLines, no_line, first_line, behind_line, IsLeft, NextLine}
use Rattle.gob_write.specs.Grammar.{CutsNext, IsAnywhere, IsEnd, IsLongNext, RefusesNext, RunAnswers, SayItems}
use Rattle.gob_write.specs.Grammar.{SaysNoneNext, WroteItems, WrotePrefixOf, say_item_more, say_none, say_nothing_more}
use Rattle.gob_write.specs.Shown.{FilledLineAnswers, HasWrittenFilled, RefusesFilledLine, SaysNeither, WroteFilledLine}
use Rattle.gob_write.specs.Shown.{filled_lines, wrote_filled, wrote_none}
use Rattle.gob_write.specs.declared.fault.LinesFault.{LinesFault}
use Rattle.gob_write.specs.declared.fault.LinesFault.TheVariants as fault
use Rattle.gob_write.specs.declared.shown.ShownWriter.{ShownWriter}
use Rattle.gob_write.proofs.LineLaws.{some_left}
use Rattle.gob_write.proofs.RunLaws.{IsLineRead, cut_more, line_read}

-- so many lines were read of the bytes, and the writer has written what they say
pub record HasReadFilled (H : Bool) (L : Bounds) (most : ℕ) (w : ShownWriter) (waits : Waiting) (bytes : List ℕ)
    (left old now : Option (List ℕ)) (n : ℕ) : Type 0 where
  pub lines : List (List ℕ)
  pub rest : List ℕ
  pub items : List FilledItem
  pub out : List ℕ
  pub table : Table
  pub cut : AreLines most bytes lines rest
  pub say : SayItems (filled_lines H L) lines items out table
  pub written : HasWrittenFilled H L w items out table
  pub sent : Appends old now out
  pub count : length lines ≡ n
  pub rest_left : IsLeft waits left rest

pub begun : (H : Bool) (L : Bounds) (most : ℕ) (w : ShownWriter) (waits : Waiting) (bytes : List ℕ)
    (left old now : Option (List ℕ))
    → HasWrittenFilled H L w [] [] base_table → Appends old now [] → waiting waits ≡ [] → left ≡ Some bytes
    → HasReadFilled H L most w waits bytes left old now 0
begun H L most w waits bytes left old now new sent none e = record {
  lines = [];
  rest = bytes;
  items = [];
  out = [];
  table = base_table;
  cut = no_line;
  say = say_none;
  written = new;
  sent = sent;
  count = refl;
  rest_left = record { unread = bytes; known = e; whole = ap (λ (l : List ℕ). l ++ bytes) (sym none) };
}

pub no_line_written : (H : Bool) (L : Bounds) (most : ℕ) (w : ShownWriter) (bytes : List ℕ) (old now : Option (List ℕ))
    → HasWrittenFilled H L w [] [] base_table → Appends old now []
    → WroteItems (filled_lines H L) most bytes old now IsAnywhere
no_line_written H L most w bytes old now new sent = record {
  lines = [];
  rest = bytes;
  items = [];
  out = [];
  table = base_table;
  cut = no_line;
  say = say_none;
  stream = no_more;
  sent = sent;
  holds = tt;
}

-- before a writer is had
pub none_written : (H : Bool) (L : Bounds) (most : ℕ) (bytes : List ℕ) (old : Option (List ℕ))
    → WroteItems (filled_lines H L) most bytes old old IsAnywhere
none_written H L most bytes old = record {
  lines = [];
  rest = bytes;
  items = [];
  out = [];
  table = base_table;
  cut = no_line;
  say = say_none;
  stream = no_more;
  sent = Appends-nil old;
  holds = tt;
}

-- what was written so far, and what else holds
pub so_far : {H : Bool} {L : Bounds} {most : ℕ} {w : ShownWriter} {waits : Waiting} {bytes : List ℕ}
    {left old now : Option (List ℕ)} {n : ℕ} (P : ℕ → Table → List ℕ → List ℕ → Type 0)
    (h : HasReadFilled H L most w waits bytes left old now n)
    → P (length h.lines) h.table h.out h.rest → WroteItems (filled_lines H L) most bytes old now P
so_far {H = H} {L = L} P h holds = record {
  lines = h.lines;
  rest = h.rest;
  items = h.items;
  out = h.out;
  table = h.table;
  cut = h.cut;
  say = h.say;
  stream = subst (λ (M : Bounds). FilledStream base_table M h.items h.out h.table) h.written.limits
      h.written.written.stream;
  sent = h.sent;
  holds = holds;
}

-- the output has these bytes still
abbrev pub kept_sent : {H : Bool} {L : Bounds} {most : ℕ} {w : ShownWriter} {waits : Waiting} {bytes : List ℕ}
    {left old now : Option (List ℕ)} {n : ℕ} (now' : Option (List ℕ)) → Keeps now now'
    → HasReadFilled H L most w waits bytes left old now n → HasReadFilled H L most w waits bytes left old now' n
kept_sent {old = old} {now = now} now' k h = record {
  lines = h.lines;
  rest = h.rest;
  items = h.items;
  out = h.out;
  table = h.table;
  cut = h.cut;
  say = h.say;
  written = h.written;
  sent = Appends-kept old now now' h.out h.sent k;
  count = h.count;
  rest_left = h.rest_left;
}

-- ---- where the lines end

pub ended : {H : Bool} {L : Bounds} {most : ℕ} {w : ShownWriter} {waits : Waiting} {bytes : List ℕ}
    {left old now : Option (List ℕ)} {n : ℕ} (count : ℕ) (waits' : Waiting) (left' now' : Option (List ℕ))
    → Keeps now now'
    → HasReadFilled H L most w waits bytes left old now n
    → ((b : List ℕ) → IsLeft waits left b → NextLine most (n + 1) b waits' left' (Ok count)) → count ≡ 0
    → WroteItems (filled_lines H L) most bytes old now' IsEnd
ended count waits' left' now' k h next zero = so_far IsEnd (kept_sent now' k h) ((next h.rest h.rest_left).none zero)

-- or no line is had
pub unread_line : {H : Bool} {L : Bounds} {most : ℕ} {w : ShownWriter} {waits : Waiting} {bytes : List ℕ}
    {left old now : Option (List ℕ)} {n : ℕ} (f : LinesFault) (waits' : Waiting) (left' now' : Option (List ℕ))
    → Keeps now now'
    → HasReadFilled H L most w waits bytes left old now n
    → ((b : List ℕ) → IsLeft waits left b → NextLine most (n + 1) b waits' left' (Err f))
    → RunAnswers (filled_lines H L) most bytes old now' (Err f)
unread_line (fault.TooLong m most) waits' left' now' k h next =
    let long = next h.rest h.rest_left in
    (long.1, so_far (IsLongNext _ m) (kept_sent now' k h) (long.0 ∙ ap (λ k. k + 1) (sym h.count), long.2))
unread_line fault.Read waits' left' now' k h next = so_far IsAnywhere (kept_sent now' k h) tt
unread_line fault.Memory waits' left' now' k h next = so_far IsAnywhere (kept_sent now' k h) tt
unread_line {H = H} {L = L} fault.Write waits' left' now' k h next =
    (now', so_far (CutsNext (filled_lines H L) now' now') (kept_sent now' k h) (inl (Keeps-refl now')))
unread_line (fault.Wrong m column path due) waits' left' now' k h next = absurd (next h.rest h.rest_left)
unread_line (fault.Refused m r) waits' left' now' k h next = absurd (next h.rest h.rest_left)

-- ---- behind one more line

with_line : {H : Bool} {L : Bounds} {most : ℕ} {w w' : ShownWriter} {waits waits' : Waiting} {bytes line : List ℕ}
    {left left' old now mid now' : Option (List ℕ)} {n : ℕ} (h : HasReadFilled H L most w waits bytes left old now n)
    → Keeps now mid → IsLineRead most h.rest line waits' left'
    → WroteFilledLine H L w' h.items h.out h.table line mid now'
    → HasReadFilled H L most w' waits' bytes left' old now' (n + 1)
with_line {line = line} {old = old} {now = now} {mid = mid} {now' = now'} h k read (wrote_none none written keeps) =
    record {
      lines = h.lines ++ line ∷ [];
      rest = behind_line h.rest;
      items = h.items;
      out = h.out;
      table = h.table;
      cut = cut_more line h.cut read.some read.is read.short;
      say = say_nothing_more line h.say none;
      written = written;
      sent = Appends-kept old mid now' h.out (Appends-kept old now mid h.out h.sent k) keeps;
      count = length-append h.lines (line ∷ []) ∙ ap (λ m. m + 1) h.count;
      rest_left = read.left;
    }
with_line {line = line} {old = old} {now = now} {mid = mid} {now' = now'} h k read (wrote_filled wrote) = record {
  lines = h.lines ++ line ∷ [];
  rest = behind_line h.rest;
  items = h.items ++ wrote.item ∷ [];
  out = h.out ++ wrote.more;
  table = wrote.table;
  cut = cut_more line h.cut read.some read.is read.short;
  say = say_item_more line h.say wrote.says wrote.is_item;
  written = wrote.written;
  sent = Appends-trans old mid now' h.out wrote.more (Appends-kept old now mid h.out h.sent k) wrote.out;
  count = length-append h.lines (line ∷ []) ∙ ap (λ m. m + 1) h.count;
  rest_left = read.left;
}

pub one_line : {H : Bool} {L : Bounds} {most : ℕ} {w w' : ShownWriter} {waits waits' waits'' : Waiting}
    {bytes line : List ℕ} {left left' old now mid now' : Option (List ℕ)} {n : ℕ} (count : ℕ)
    (h : HasReadFilled H L most w waits bytes left old now n) → Keeps now mid
    → ((b : List ℕ) → IsLeft waits left b → NextLine most (n + 1) b waits' left' (Ok count)) → count ≢ 0
    → line ≡ take count (waiting waits') → waiting waits'' ≡ drop count (waiting waits')
    → ((items : List FilledItem) (out : List ℕ) (T : Table) → HasWrittenFilled H L w items out T
    → WroteFilledLine H L w' items out T line mid now') → HasReadFilled H L most w' waits'' bytes left' old now' (n + 1)
one_line {n = n} count h k next some is passed wrote =
    with_line h k (line_read _ (next h.rest h.rest_left) some is passed) (wrote h.items h.out h.table h.written)

-- ---- where a line stops the run

stops_there : {H : Bool} {L : Bounds} {most : ℕ} {w : ShownWriter} (w' : ShownWriter) {waits : Waiting}
    {bytes line : List ℕ} {left old mid : Option (List ℕ)} (now' : Option (List ℕ)) {n : ℕ} (f : LinesFault)
    (h : HasReadFilled H L most w waits bytes left old mid n)
    → h.rest ≢ [] → line ≡ first_line h.rest
    → FilledLineAnswers H L w' h.items h.out h.table line (n + 1) mid now' (Err f)
    → RunAnswers (filled_lines H L) most bytes old now' (Err f)
stops_there {H = H} {L = L} w' now' (fault.Wrong m column path due) h some is answers =
    so_far (SaysNoneNext (filled_lines H L) m) (kept_sent now' answers.2 h) (
      some,
      answers.0 ∙ ap (λ k. k + 1) (sym h.count),
      subst (λ (l : List ℕ). IsUtf8 l → SaysNeither h.table H L.depth l) is answers.1,
    )
stops_there {H = H} {L = L} w' now' (fault.Refused m r) h some is answers =
    so_far (RefusesNext (filled_lines H L) m r) (kept_sent now' answers.2 h) (
      some,
      answers.0 ∙ ap (λ k. k + 1) (sym h.count),
      subst (λ (l : List ℕ). RefusesFilledLine H L h.table (length h.out) l r) is answers.1,
    )
stops_there w' now' (fault.TooLong m most) h some is answers = absurd answers
stops_there w' now' fault.Read h some is answers = absurd answers
stops_there w' now' fault.Memory h some is answers = so_far IsAnywhere (kept_sent now' answers h) tt
stops_there {H = H} {L = L} w' {mid = mid} now' fault.Write h some is answers = (
  mid,
  so_far (CutsNext (filled_lines H L) mid now') h
      (inr (subst (λ (l : List ℕ). WrotePrefixOf (filled_lines H L) h.table (length h.out) l mid now') is answers)),
)

pub line_stops : {H : Bool} {L : Bounds} {most : ℕ} {w : ShownWriter} (w' : ShownWriter) {waits waits' : Waiting}
    {bytes line : List ℕ} {left left' old now : Option (List ℕ)} (mid now' : Option (List ℕ)) {n : ℕ} (count : ℕ)
    (f : LinesFault)
    (h : HasReadFilled H L most w waits bytes left old now n) → Keeps now mid
    → ((b : List ℕ) → IsLeft waits left b → NextLine most (n + 1) b waits' left' (Ok count)) → count ≢ 0
    → line ≡ take count (waiting waits')
    → ((items : List FilledItem) (out : List ℕ) (T : Table) → HasWrittenFilled H L w items out T
    → FilledLineAnswers H L w' items out T line (n + 1) mid now' (Err f))
    → RunAnswers (filled_lines H L) most bytes old now' (Err f)
line_stops w' mid now' count f h k next some is answers =
    let waits = next h.rest h.rest_left in
    stops_there w' now' f (kept_sent mid k h) (some_left waits some) (is ∙ waits.line)
    (answers h.items h.out h.table h.written)

-- ---- behind a flush

kept_lines : {H : Bool} {L : Bounds} {most : ℕ} {bytes : List ℕ} {old now : Option (List ℕ)}
    {P : ℕ → Table → List ℕ → List ℕ → Type 0}
    (now' : Option (List ℕ)) → Keeps now now' → WroteItems (filled_lines H L) most bytes old now P
    → WroteItems (filled_lines H L) most bytes old now' P
kept_lines {old = old} {now = now} now' k h = record {
  lines = h.lines;
  rest = h.rest;
  items = h.items;
  out = h.out;
  table = h.table;
  cut = h.cut;
  say = h.say;
  stream = h.stream;
  sent = Appends-kept old now now' h.out h.sent k;
  holds = h.holds;
}

-- what holds of the lines, weakened
weaker : {H : Bool} {L : Bounds} {most : ℕ} {bytes : List ℕ} {old now : Option (List ℕ)}
    {P Q : ℕ → Table → List ℕ → List ℕ → Type 0}
    → ((n : ℕ) (T : Table) (out rest : List ℕ) → P n T out rest → Q n T out rest)
    → WroteItems (filled_lines H L) most bytes old now P
    → WroteItems (filled_lines H L) most bytes old now Q
weaker f h = record {
  lines = h.lines;
  rest = h.rest;
  items = h.items;
  out = h.out;
  table = h.table;
  cut = h.cut;
  say = h.say;
  stream = h.stream;
  sent = h.sent;
  holds = f _ _ _ _ h.holds;
}

cut_kept : (H : Bool) (L : Bounds) (mid now now' : Option (List ℕ)) → Keeps now now' → (n : ℕ) (T : Table)
    (out rest : List ℕ) → CutsNext (filled_lines H L) mid now n T out rest
    → CutsNext (filled_lines H L) mid now' n T out rest
cut_kept H L mid now now' k n T out rest (inl keeps) = inl (Keeps-trans mid now now' keeps k)
cut_kept H L mid now now' k n T out rest (inr some) = inr (record {
  item = some.item;
  says = some.says;
  prefix = some.prefix;
  rest = some.rest;
  table = some.table;
  is = some.is;
  out = Appends-kept mid now now' some.prefix some.out k;
})

-- a flush keeps what was written
pub flushed_shown : (H : Bool) (L : Bounds) (most : ℕ) (bytes : List ℕ) (old now now' : Option (List ℕ))
    (r : Result (Unit {0}) LinesFault) → Keeps now now' → RunAnswers (filled_lines H L) most bytes old now r
    → RunAnswers (filled_lines H L) most bytes old now' r
flushed_shown H L most bytes old now now' (Ok u) k h = kept_lines now' k h
flushed_shown H L most bytes old now now' (Err (fault.Wrong m column path due)) k h = kept_lines now' k h
flushed_shown H L most bytes old now now' (Err (fault.Refused m r)) k h = kept_lines now' k h
flushed_shown H L most bytes old now now' (Err (fault.TooLong m limit)) k h = (h.0, kept_lines now' k h.1)
flushed_shown H L most bytes old now now' (Err fault.Read) k h = kept_lines now' k h
flushed_shown H L most bytes old now now' (Err fault.Memory) k h = kept_lines now' k h
flushed_shown H L most bytes old now now' (Err fault.Write) k h = (h.0, weaker (cut_kept H L h.0 now now' k) h.1)

-- and one that fails behind all lines is a failed write
pub unflushed_shown : (H : Bool) (L : Bounds) (most : ℕ) (bytes : List ℕ) (old now now' : Option (List ℕ))
    → Keeps now now' → WroteItems (filled_lines H L) most bytes old now IsEnd
    → RunAnswers (filled_lines H L) most bytes old now' (Err fault.Write)
unflushed_shown H L most bytes old now now' k h = (now, weaker (λ n T out rest all. inl k) h)
