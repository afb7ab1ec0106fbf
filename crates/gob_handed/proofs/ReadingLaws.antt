-- How reading goes on, in any grammar.
use Rattle.std.proofs.Common.{◌≡◌, ℕ, ◌+◌, ◌-◌, ◌^◌, ◌<◌, ◌≤◌, min, arith, List, [], ◌∷◌, ◌++◌, length, take, drop}
use Rattle.std.proofs.Common.{Option, Result, Ok, Err, ap, sym, subst, refl, ◌∙◌}
use Rattle.std.proofs.Common.{append_assoc, append-nil, length-append, take-append-drop}
use Rattle.std.specs.Prelude.{IfSome}
use Rattle.std.specs.Result.{IsErrAnd}
use Rattle.std.proofs.lemmas.List.{length-take}
use Rattle.gob_types.specs.Defined.{types}
use Rattle.gob_types.specs.Table.{Table}
use Rattle.gob_types.specs.declared.id.TypeId.{TypeId}
use Rattle.gob_stream.specs.Bounds.{AreLimits, Bounds, deepest}
use Rattle.gob_stream.specs.Grammar.{GivesIn}
use Rattle.gob_stream.specs.Honest.{OfRefusal}
use Rattle.gob_stream.specs.Stepping.{AdvancesBy, GivesAllBy, GivesItemsOf, gives_none, gives_one, StandsBy}
use Rattle.gob_stream.specs.Stepping.{in_format, ReadsOnBy, StepAnswersBy, Stepping}
use Rattle.gob_stream.specs.declared.fault.Fault.{Fault}
use Rattle.gob_stream.specs.declared.fault.Fault.TheVariants as fault
use Rattle.gob_stream.specs.declared.session.Advance.{Advance}
use Rattle.gob_handed.specs.Reading.{AreUnfolded, none_unfolded, one_more, EndAt, GivesOfFirst, GoesOn, Handouts}
use Rattle.gob_handed.specs.Reading.{FeedsBy, HasReadTo, IsHandedNext, KeepsBy, RefusesBehind, StandsSo, StaysSo}
use Rattle.gob_handed.specs.Reading.{StepsBy, TakesSome}
use Rattle.gob_handed.specs.Unfolded.{handout}
use Rattle.gob_handed.specs.Waiting.{begin_of, session_of, types_in, waiting}
use Rattle.gob_handed.specs.declared.handout.Content.{Content}
use Rattle.gob_handed.specs.declared.handout.Handout.{Handout}
use Rattle.gob_handed.specs.declared.handout.Span.{Span}
use Rattle.gob_handed.specs.declared.reader.Reader.{Reader}

-- ---- more bytes
end_on : {X I Told : Type 0} {d : Stepping X I Told} {items : List Told} {bytes : List ℕ} {end : ℕ} {T : Table}
    (more : List ℕ) → EndAt d items bytes end T → EndAt d items (bytes ++ more) end T
end_on more e = record {
  session = e.session;
  prefix = e.prefix;
  rest = e.rest ++ more;
  read = e.read;
  between = e.between;
  whole = ap (λ (l : List ℕ). l ++ more) e.whole ∙ append_assoc e.prefix e.rest more;
  end_is = e.end_is;
  types_are = e.types_are;
}

unfolded_on : {X I Told : Type 0} {d : Stepping X I Told} {handouts : Handouts I} {bytes : List ℕ}
    {first : List Told} {begin : ℕ} {us : List Handout} {all : List Told} {end : ℕ} (more : List ℕ)
    → AreUnfolded d handouts bytes first begin us all end
    → AreUnfolded d handouts (bytes ++ more) first begin us all end
unfolded_on more none_unfolded = none_unfolded
unfolded_on more (one_more i given p e m h) = one_more i given (unfolded_on more p) (end_on more e) m h

-- ---- more items
unfolded_join : {X I Told : Type 0} {d : Stepping X I Told} {handouts : Handouts I} {bytes : List ℕ}
    {first mid : List Told} {begin middle : ℕ} {us vs : List Handout} {all : List Told} {end : ℕ}
    → AreUnfolded d handouts bytes first begin us mid middle → AreUnfolded d handouts bytes mid middle vs all end
    → AreUnfolded d handouts bytes first begin (us ++ vs) all end
unfolded_join {d = d} {handouts = handouts} {bytes = bytes} {first = first} {mid = mid} {begin = begin}
    {middle = middle} {us = us} p none_unfolded =
    subst (λ (l : List Handout). AreUnfolded d handouts bytes first begin l mid middle) (sym (append-nil us)) p
unfolded_join {d = d} {handouts = handouts} {bytes = bytes} {first = first} {begin = begin} {us = us} p
    (one_more {us = vs} {vs = ws} {all = before} {end = end} i given q e m h) =
    subst (λ (l : List Handout). AreUnfolded d handouts bytes first begin l (before ++ i ∷ []) end)
    (append_assoc us vs ws)
    (one_more i given (unfolded_join p q) e m h)

goes_join : {X I Told : Type 0} {d : Stepping X I Told} {handouts : Handouts I} {old mid new : Reader X I}
    {items : List Told} {bytes : List ℕ} (more : List ℕ) {P Q : List Told → Type 0}
    (g : GoesOn d handouts old mid items bytes P)
    → GoesOn d handouts mid new g.all (bytes ++ more) Q → GoesOn d handouts old new items (bytes ++ more) Q
goes_join more g k = record {
  given = g.given ++ k.given;
  appended = k.appended ∙ ap (λ (l : List Handout). l ++ k.given) g.appended ∙ append_assoc _ g.given k.given;
  all = k.all;
  unfolded = unfolded_join (unfolded_on more g.unfolded) k.unfolded;
  so = k.so;
}

-- the reader that goes on is as this one was
pub goes_none : {X I Told : Type 0} {d : Stepping X I Told} {handouts : Handouts I} {old new : Reader X I}
    {items : List Told} {bytes : List ℕ} {P : List Told → Type 0} → waiting new ≡ waiting old
    → begin_of new ≡ begin_of old → P items → GoesOn d handouts old new items bytes P
goes_none {d = d} {handouts = handouts} {old = old} {items = items} {bytes = bytes} w b so = record {
  given = [];
  appended = w ∙ sym (append-nil (waiting old));
  all = items;
  unfolded = subst (λ (n : ℕ). AreUnfolded d handouts bytes items (begin_of old) [] items n) (sym b) none_unfolded;
  so = so;
}

-- ---- a step that takes some bytes
-- what was read stays so
read_same : {X I Told : Type 0} (d : Stepping X I Told) {old new : Reader X I} {items : List Told} {bytes : List ℕ}
    → session_of new ≡ session_of old → new.offset ≡ old.offset → HasReadTo d old items bytes
    → HasReadTo d new items bytes
read_same d {items = items} {bytes = bytes} session offset h = record {
  gave = subst (λ s. d.read s items bytes) (sym session) h.gave;
  taken_are = ap (λ s. d.taken s) session ∙ h.taken_are;
  offset_is = offset ∙ h.offset_is;
  allowed = subst (λ s. AreLimits deepest (d.limits s)) (sym session) h.allowed;
}

-- the reader behind it
read_on : {X I Told : Type 0} (d : Stepping X I Told) {old new : Reader X I} {items more : List Told} {used : ℕ}
    (bytes piece : List ℕ) → HasReadTo d old items bytes → d.read (session_of new) more (bytes ++ take used piece)
    → d.taken (session_of new) ≡ d.taken (session_of old) + used → used ≤ length piece
    → new.offset ≡ min (old.offset + used) (2 ^ 64 - 1) → d.limits (session_of new) ≡ d.limits (session_of old)
    → StandsBy d (session_of new) → HasReadTo d new more (bytes ++ take used piece)
read_on d {old = old} {new = new} {items = items} {more = more} {used = used} bytes piece h gave onward within so same
    stands =
    let long = length-append bytes (take used piece) in
    let some = length-take used piece in
    let taken : d.taken (session_of new) ≡ length (bytes ++ take used piece) =
    omega (arith, onward, h.taken_are, long, some, within) in
    let allowed : AreLimits deepest (d.limits (session_of new)) =
    subst (λ (L : Bounds). AreLimits deepest L) (sym same) h.allowed in
    let few = (stands.few more (bytes ++ take used piece) gave).1 in
    record {
      gave = gave;
      taken_are = taken;
      offset_is = omega (arith, so, h.offset_is, taken, few, allowed.stream, onward, h.taken_are);
      allowed = allowed;
    }

-- the item of a step, if one is whole, is kept
stepped_on : {X I Told : Type 0} (d : Stepping X I Told) {handouts : Handouts I} {old : Reader X I}
    (mid : Reader X I) {new : Reader X I} {items more : List Told} {o : Option I} {bytes : List ℕ}
    → GivesItemsOf (d.means (types_in d mid)) o more → KeepsBy d handouts mid new o → begin_of mid ≡ begin_of old
    → waiting mid ≡ waiting old → mid.offset ≡ length bytes → d.read (session_of mid) (items ++ more) bytes
    → IfSome o (λ _. d.between (session_of mid)) → HasReadTo d new (items ++ more) bytes
    → GoesOn d handouts old new items bytes (λ all. HasReadTo d new all bytes)
stepped_on d mid {new = new} {items = items} {bytes = bytes} gives_none k begin w offset gave between so =
    goes_none (k.0 ∙ w) (k.1 ∙ begin) (subst (λ (l : List _). HasReadTo d new l bytes) (append-nil items) so)
stepped_on d {handouts = handouts} {old = old} mid {new = new} {items = items} {bytes = bytes}
    (gives_one {given = given} {i = i} m) k begin w offset gave between so =
    let end : EndAt d (items ++ i ∷ []) bytes mid.offset (types_in d mid) = record {
      session = session_of mid;
      prefix = bytes;
      rest = [];
      read = gave;
      between = between;
      whole = sym (append-nil bytes);
      end_is = offset;
      types_are = refl;
    } in
    let put : handouts (types_in d mid) given (record { begin = begin_of old; end = mid.offset }) k.given =
    subst (λ (n : ℕ). handouts (types_in d mid) given (record { begin = n; end = mid.offset }) k.given) begin k.holds in
    record {
      given = k.given;
      appended = k.appended ∙ ap (λ (l : List Handout). l ++ k.given) w;
      all = items ++ i ∷ [];
      unfolded = subst (λ (n : ℕ). AreUnfolded d handouts bytes items (begin_of old) k.given (items ++ i ∷ []) n)
          (sym k.begin) (one_more i given none_unfolded end m put);
      so = so;
    }

-- a step is answered so
pub steps_well : {X I Told : Type 0} (d : Stepping X I Told) {handouts : Handouts I} {old : Reader X I}
    (mid : Reader X I) {new : Reader X I} {items : List Told} {used : ℕ} {step : Advance I} (bytes piece : List ℕ)
    → used ≡ step.used → (h : HasReadTo d old items bytes)
    → AdvancesBy d (session_of old) (session_of mid) items bytes piece step
    → step.used ≤ length piece → StandsBy d (session_of mid) → d.limits (session_of mid) ≡ d.limits (session_of old)
    → mid.offset ≡ min (old.offset + used) (2 ^ 64 - 1) → begin_of mid ≡ begin_of old → waiting mid ≡ waiting old
    → IfSome step.item (λ _. d.between (session_of mid)) → KeepsBy d handouts mid new step.item
    → session_of new ≡ session_of mid → new.offset ≡ mid.offset
    → StepsBy d handouts old new items bytes piece (Ok used)
steps_well d {handouts = handouts} {old = old} mid {new = new} {items = items} {used = used} {step = step} bytes piece
    is h a within stands same offset begin w between k session kept =
    let end = bytes ++ take step.used piece in
    let n : mid.offset ≡ min (old.offset + step.used) (2 ^ 64 - 1) =
    offset ∙ ap (λ (u : ℕ). min (old.offset + u) (2 ^ 64 - 1)) is in
    let reads : HasReadTo d mid (items ++ a.more) end =
    read_on d bytes piece h a.after a.onward within n same stands in
    let moved : HasReadTo d new (items ++ a.more) end = read_same d session kept reads in
    subst (λ (u : ℕ). GoesOn d handouts old new items (bytes ++ take u piece)
    (λ all. HasReadTo d new all (bytes ++ take u piece))) (sym is)
    (stepped_on d mid a.gives k begin w reads.offset_is a.after between moved)

-- the item of a value that stood whole is kept
pub takes_whole : {X I Told : Type 0} (d : Stepping X I Told) {handouts : Handouts I} {old new : Reader X I}
    {items : List Told} {id : TypeId} {content : Content} {used end : ℕ} (bytes piece : List ℕ)
    → IsHandedNext d handouts (session_of old) id content (take used piece) → used ≤ length piece
    → ReadsOnBy d (session_of old) (session_of new) (take used piece) → d.between (session_of new)
    → StandsBy d (session_of new) → d.taken (session_of new) ≡ d.taken (session_of old) + length (take used piece)
    → d.table (session_of new) ≡ d.table (session_of old) → d.limits (session_of new) ≡ d.limits (session_of old)
    → end ≡ min (old.offset + used) (2 ^ 64 - 1) → new.offset ≡ end → begin_of new ≡ end
    → waiting new ≡ waiting old ++ handout id (record { begin = begin_of old; end = end }) content ∷ []
    → HasReadTo d old items bytes → TakesSome d handouts old new items bytes piece used
takes_whole d {handouts = handouts} {old = old} {new = new} {items = items} {id = id} {content = content} {used = used}
    {end = end} bytes piece n within reads between stands onward table same last offset begin w h =
    let whole = bytes ++ take used piece in
    let span : Span = record { begin = begin_of old; end = end } in
    let gave = reads items bytes (d.told n.item) h.gave (in_format n.next) in
    let long = length-take used piece in
    let taken : d.taken (session_of new) ≡ d.taken (session_of old) + used = omega (arith, onward, long, within) in
    let so = read_on d bytes piece h gave taken within (offset ∙ last) same stands in
    let at : EndAt d (items ++ d.told n.item ∷ []) whole end (types_in d new) = record {
      session = session_of new;
      prefix = whole;
      rest = [];
      read = gave;
      between = between;
      whole = sym (append-nil whole);
      end_is = sym offset ∙ so.offset_is;
      types_are = refl;
    } in
    let T = ap (λ t. types t) (sym table) in
    let one : AreUnfolded d handouts whole items (begin_of old) (handout id span content ∷ [])
    (items ++ d.told n.item ∷ []) end =
    one_more (d.told n.item) n.given none_unfolded at (subst (λ t. d.means t n.given (d.told n.item)) T n.means)
    (subst (λ t. handouts t n.given span (handout id span content ∷ [])) T (n.handed span)) in
    record {
      given = handout id span content ∷ [];
      appended = w;
      all = items ++ d.told n.item ∷ [];
      unfolded = subst (λ (e : ℕ). AreUnfolded d handouts whole items (begin_of old) (handout id span content ∷ [])
          (items ++ d.told n.item ∷ []) e) (sym begin) one;
      so = so;
    }

-- or refused, or short of memory
pub steps_ill : {X I Told : Type 0} (d : Stepping X I Told) {handouts : Handouts I} {old new : Reader X I}
    {items : List Told} (T : Table) (bytes piece : List ℕ) (e : Fault)
    → StepAnswersBy d T (session_of old) (session_of new) items bytes piece (Err e) → begin_of new ≡ begin_of old
    → waiting new ≡ waiting old → StepsBy d handouts old new items bytes piece (Err e)
steps_ill d T bytes piece (fault.Refused R) a begin w =
    goes_none w begin (record { table = T; refuses = a.0; leads = a.1 })
steps_ill d T bytes piece fault.Read a begin w = absurd a
steps_ill d {old = old} {items = items} T bytes piece fault.Memory a begin w = goes_none w begin (record {
  more = [];
  few = omega arith;
  prefix = bytes;
  rest = piece;
  whole = refl;
  table = T;
  gives = subst (λ (l : List _). GivesIn d.grammar (d.within (d.limits (session_of old))) T l bytes)
      (sym (append-nil items)) a;
})
steps_ill d T bytes piece fault.Failed a begin w = absurd a

-- an item that can't be kept is the last
few_more : {Told I : Type 0} {means : I → Told → Type 0} {o : Option I} {more : List Told} → GivesItemsOf means o more
    → length more ≤ 1
few_more gives_none = omega arith
few_more (gives_one m) = omega arith

pub keeps_ill : {X I Told : Type 0} (d : Stepping X I Told) {handouts : Handouts I} {old : Reader X I}
    (mid : Reader X I) {new : Reader X I} {items : List Told} {step : Advance I} (bytes piece : List ℕ) (e : Fault)
    → e ≡ fault.Memory → AdvancesBy d (session_of old) (session_of mid) items bytes piece step
    → d.limits (session_of mid) ≡ d.limits (session_of old) → GivesAllBy d (session_of mid)
    → begin_of new ≡ begin_of old → waiting new ≡ waiting old
    → StepsBy d handouts old new items bytes piece (Err e)
keeps_ill d {handouts = handouts} {old = old} mid {new = new} {items = items} {step = step} bytes piece e is a
    same gives begin w =
    let first = bytes ++ take step.used piece in
    let T = d.behind (session_of mid) (items ++ a.more) first a.after in
    let last : GivesOfFirst d (d.limits (session_of old)) items (bytes ++ piece) = record {
      more = a.more;
      few = few_more a.gives;
      prefix = first;
      rest = drop step.used piece;
      whole = ap (λ (l : List ℕ). bytes ++ l) (sym (take-append-drop step.used piece))
          ∙ sym (append_assoc bytes (take step.used piece) (drop step.used piece));
      table = T;
      gives = subst (λ (L : Bounds). GivesIn d.grammar (d.within L) T (items ++ a.more) first) same
          (gives (items ++ a.more) first a.after);
    } in
    subst (λ (f : Fault). StepsBy d handouts old new items bytes piece (Err f)) (sym is)
    (goes_none w begin last)

-- ---- a reader that took nothing
stands_as : {X I Told : Type 0} (d : Stepping X I Told) (old mid new : Reader X I) (all : List Told) (bytes : List ℕ)
    (e : Fault) → d.limits (session_of mid) ≡ d.limits (session_of old) → StandsSo d mid new all bytes (Err e)
    → StandsSo d old new all bytes (Err e)
stands_as d old mid new all bytes (fault.Refused R) same s =
    subst (λ (L : Bounds). RefusesBehind d L all bytes R (types_in d new)) same s
stands_as d old mid new all bytes fault.Read same s = absurd s
stands_as d old mid new all bytes fault.Memory same s =
    subst (λ (L : Bounds). GivesOfFirst d L all bytes) same s
stands_as d old mid new all bytes fault.Failed same s = absurd s

goes_weaker : {X I Told : Type 0} {d : Stepping X I Told} {handouts : Handouts I} {old new : Reader X I}
    {items : List Told} {bytes : List ℕ} {P Q : List Told → Type 0} → ((all : List Told) → P all → Q all)
    → GoesOn d handouts old new items bytes P → GoesOn d handouts old new items bytes Q
goes_weaker f g = record {
  given = g.given;
  appended = g.appended;
  all = g.all;
  unfolded = g.unfolded;
  so = f g.all g.so;
}

goes_from : {X I Told : Type 0} {d : Stepping X I Told} {handouts : Handouts I} {old mid new : Reader X I}
    {items : List Told} {bytes : List ℕ} {P : List Told → Type 0} → StaysSo old mid
    → GoesOn d handouts mid new items bytes P → GoesOn d handouts old new items bytes P
goes_from {d = d} {handouts = handouts} {new = new} {items = items} {bytes = bytes} s g = record {
  given = g.given;
  appended = g.appended ∙ ap (λ (l : List Handout). l ++ g.given) s.waits;
  all = g.all;
  unfolded = subst (λ (n : ℕ). AreUnfolded d handouts bytes items n g.given g.all (begin_of new)) s.begin g.unfolded;
  so = g.so;
}

pub stays_read : {X I Told : Type 0} (d : Stepping X I Told) {old new : Reader X I} {items : List Told}
    {bytes : List ℕ} → StaysSo old new → HasReadTo d old items bytes → HasReadTo d new items bytes
stays_read d s h = read_same d s.session s.offset h

pub steps_from : {X I Told : Type 0} (d : Stepping X I Told) (handouts : Handouts I) (old mid new : Reader X I)
    (items : List Told) (bytes piece : List ℕ) (r : Result ℕ Fault) → StaysSo old mid
    → StepsBy d handouts mid new items bytes piece r → StepsBy d handouts old new items bytes piece r
steps_from d handouts old mid new items bytes piece (Ok used) s g = goes_from s g
steps_from d handouts old mid new items bytes piece (Err e) s g =
    let same = ap (λ x. d.limits x) s.session in
    goes_from s (goes_weaker (λ all p. stands_as d old mid new all (bytes ++ piece) e same p) g)

-- at the fault that a `?` returns
pub steps_at : {X I Told : Type 0} (d : Stepping X I Told) {handouts : Handouts I} {old new : Reader X I}
    {items : List Told} (bytes piece : List ℕ) (r : Result ℕ Fault) (e : Fault) → IsErrAnd r (λ x. x ≡ e)
    → StepsBy d handouts old new items bytes piece (Err e)
    → StepsBy d handouts old new items bytes piece r
steps_at d bytes piece (Ok u) e is h = absurd is
steps_at d {handouts = handouts} {old = old} {new = new} {items = items} bytes piece (Err f) e is h =
    subst (λ (x : Fault). StepsBy d handouts old new items bytes piece (Err x)) (sym is) h

-- ---- a piece
-- the reader has gone on to what is left of the piece
pub record GoesUpTo {X I Told : Type 0} (d : Stepping X I Told) (handouts : Handouts I) (old new : Reader X I)
    (items : List Told) (bytes piece rest : List ℕ) : Type 0 where
  pub prefix : List ℕ
  pub whole : piece ≡ prefix ++ rest
  pub goes : GoesOn d handouts old new items (bytes ++ prefix) (λ all. HasReadTo d new all (bytes ++ prefix))

pub none_yet : {X I Told : Type 0} (d : Stepping X I Told) {handouts : Handouts I} {old new : Reader X I}
    {items : List Told} (bytes piece : List ℕ) → session_of new ≡ session_of old → new.offset ≡ old.offset
    → waiting new ≡ waiting old → begin_of new ≡ begin_of old → HasReadTo d old items bytes
    → GoesUpTo d handouts old new items bytes piece piece
none_yet d {handouts = handouts} {old = old} {new = new} {items = items} bytes piece session offset w begin h = record {
  prefix = [];
  whole = refl;
  goes = subst (λ (l : List ℕ). GoesOn d handouts old new items l (λ all. HasReadTo d new all l))
      (sym (append-nil bytes)) (goes_none w begin (read_same d session offset h));
}

pub up_to : {X I Told : Type 0} (d : Stepping X I Told) {handouts : Handouts I} {old mid new : Reader X I}
    {items : List Told} (used : ℕ) (bytes piece rest later : List ℕ) → later ≡ drop used rest
    → (g : GoesUpTo d handouts old mid items bytes piece rest)
    → StepsBy d handouts mid new g.goes.all (bytes ++ g.prefix) rest (Ok used)
    → GoesUpTo d handouts old new items bytes piece later
up_to d {handouts = handouts} {old = old} {new = new} {items = items} used bytes piece rest later is g k =
    record {
      prefix = g.prefix ++ take used rest;
      whole = g.whole
          ∙ ap (λ (l : List ℕ). g.prefix ++ l)
          (sym (take-append-drop used rest) ∙ ap (λ (l : List ℕ). take used rest ++ l) (sym is))
          ∙ sym (append_assoc g.prefix (take used rest) later);
      goes = subst (λ (l : List ℕ). GoesOn d handouts old new items l (λ all. HasReadTo d new all l))
          (append_assoc bytes g.prefix (take used rest)) (goes_join (take used rest) g.goes k);
    }

pub whole_piece : {X I Told : Type 0} (d : Stepping X I Told) {handouts : Handouts I} {old new : Reader X I}
    {items : List Told} (bytes piece : List ℕ) {rest : List ℕ} → length rest ≡ 0
    → GoesUpTo d handouts old new items bytes piece rest
    → GoesOn d handouts old new items (bytes ++ piece) (λ all. HasReadTo d new all (bytes ++ piece))
whole_piece d {handouts = handouts} {old = old} {new = new} {items = items} bytes piece {rest = []} none g =
    subst (λ (l : List ℕ). GoesOn d handouts old new items (bytes ++ l) (λ all. HasReadTo d new all (bytes ++ l)))
    (sym (g.whole ∙ append-nil g.prefix)) g.goes
whole_piece d bytes piece {rest = b ∷ rest} none g = absurd (omega (arith, none))

pub stops_piece : {X I Told : Type 0} (d : Stepping X I Told) {handouts : Handouts I} {old mid new : Reader X I}
    {items : List Told} (bytes piece rest : List ℕ) (e : Fault)
    → d.limits (session_of mid) ≡ d.limits (session_of old) → (g : GoesUpTo d handouts old mid items bytes piece rest)
    → StepsBy d handouts mid new g.goes.all (bytes ++ g.prefix) rest (Err e)
    → FeedsBy d handouts old new items bytes piece (Err e)
stops_piece d {handouts = handouts} {old = old} {mid = mid} {new = new} {items = items} bytes piece rest e same g k =
    subst (λ (l : List ℕ). GoesOn d handouts old new items l (λ all. StandsSo d old new all l (Err e)))
    (append_assoc bytes g.prefix rest ∙ ap (λ (l : List ℕ). bytes ++ l) (sym g.whole))
    (goes_weaker (λ all s. stands_as d old mid new all ((bytes ++ g.prefix) ++ rest) e same s)
    (goes_join rest g.goes k))

pub feeds_at : {X I Told : Type 0} (d : Stepping X I Told) {handouts : Handouts I} {old new : Reader X I}
    {items : List Told} (bytes piece : List ℕ) (r : Result (Unit {0}) Fault) (e : Fault) → IsErrAnd r (λ x. x ≡ e)
    → FeedsBy d handouts old new items bytes piece (Err e)
    → FeedsBy d handouts old new items bytes piece r
feeds_at d bytes piece (Ok u) e is h = absurd is
feeds_at d {handouts = handouts} {old = old} {new = new} {items = items} bytes piece (Err f) e is h =
    subst (λ (x : Fault). FeedsBy d handouts old new items bytes piece (Err x)) (sym is) h

-- ---- what shows a refusal
shown_by : (A B : Type 0) (n m : ℕ) (e : Fault) → n ≤ m → OfRefusal {A = B} (λ refusal. m < refusal.seen) (Err e)
    → OfRefusal {A = A} (λ refusal. n < refusal.seen) (Err e)
shown_by A B n m (fault.Refused R) le s = omega arith
shown_by A B n m fault.Read le s = tt
shown_by A B n m fault.Memory le s = tt
shown_by A B n m fault.Failed le s = tt

-- bytes behind so many show it, so they stand behind no more
pub shown_at : {A : Type 0} (B : Type 0) (n m : ℕ) (r : Result A Fault) (e : Fault) → IsErrAnd r (λ x. x ≡ e) → n ≤ m
    → OfRefusal {A = B} (λ refusal. m < refusal.seen) (Err e) → OfRefusal (λ refusal. n < refusal.seen) r
shown_at B n m (Ok u) e is le s = tt
shown_at {A = A} B n m (Err f) e is le s =
    subst (λ (x : Fault). OfRefusal {A = A} (λ refusal. n < refusal.seen) (Err x)) (sym is)
    (shown_by A B n m e le s)

-- want of memory is no refusal
pub none_shown : {A : Type 0} (n : ℕ) (r : Result A Fault) (e : Fault) → IsErrAnd r (λ x. x ≡ e) → e ≡ fault.Memory
    → OfRefusal (λ refusal. n < refusal.seen) r
none_shown n (Ok u) e is m = tt
none_shown {A = A} n (Err f) e is m =
    subst (λ (x : Fault). OfRefusal {A = A} (λ refusal. n < refusal.seen) (Err x)) (sym (is ∙ m)) tt

-- ---- a reader of another session
pub with_session : {X I : Type 0} (r : Reader X I) {s : X} → s ≡ session_of r → record r { session = s } ≡ r
with_session r e = ap (λ s. record r { session = s }) e
