-- What a filled value is to a reader that takes no filled nil, and to the table.
use Rattle.std.proofs.Common.{◌≡◌, ℕ, ◌+◌, ◌<◌, ◌≤◌, List, [], ◌∷◌, ◌++◌, length, arith, refl, sym, ◌∙◌, append_assoc}
use Rattle.std.proofs.Common.{length-append}
use Rattle.gob_num.specs.Unsigned.{IsUnsigned, AreBytes}
use Rattle.gob_num.proofs.PublicLaws.{unsigned_length}
use Rattle.gob_types.specs.declared.id.TypeId.{TypeId}
use Rattle.gob_types.specs.declared.reason.Reason.TheVariants as reason
use Rattle.gob_types.specs.Table.{Table}
use Rattle.gob_types.proofs.PublicLaws.{Keeps, shape_of-append}
use Rattle.gob_value.specs.Tree.{Tree, depth}
use Rattle.gob_value.specs.Top.{SpellsTop}
use Rattle.gob_read.specs.Expected.{a_number, nil}
use Rattle.gob_read.specs.Expects.{ExpectsTop}
use Rattle.gob_read.specs.First.{IsFirst}
use Rattle.gob_read.specs.Refusal.{Refusal}
use Rattle.gob_read.proofs.Grammar.Deep.{expects_top_within, within_shallow}
use Rattle.gob_read.proofs.Grammar.Onward.{shallow_before}
use Rattle.gob_read.proofs.Grammar.Firsts.{not_allowed_first}
use Rattle.gob_read.proofs.Grammar.Prefixes.{prefix_of, append_nil}
use Rattle.gob_stream.specs.Bounds.{Bounds}
use Rattle.gob_filled.specs.Definition.{Defines, defines}
use Rattle.gob_filled.specs.Filled.{Definitions, Filled, filled, Fillings, no_filling, filling, AreDefined}
use Rattle.gob_filled.specs.Filled.{none_defined}
use Rattle.gob_filled.specs.Filled.{one_defined, SpellsFilled, with_fillings, Fills, as_it_stands, next_filled}

pub contained : {base : Table} {L : Bounds} {T : Table} {t : TypeId} {limit : ℕ} {v : Tree} {b : List ℕ}
    → SpellsTop T t v b → AreBytes b → depth v ≤ limit
    → SpellsFilled base L T t limit (filled v no_filling) b T
contained sp o de = with_fillings sp de (as_it_stands o)

pub unfilled : {base : Table} {L : Bounds} {T U : Table} {t : TypeId} {limit : ℕ} {v : Tree} {b : List ℕ}
    → SpellsFilled base L T t limit (filled v no_filling) b U
    → SpellsTop T t v b × (U ≡ T)
unfilled (with_fillings sp de (as_it_stands o)) = (sp, refl)

-- where the first filled nil stands
pub record FirstFilled (T : Table) (t : TypeId) (limit place : ℕ) (ls : List ℕ) : Type 0 where
  pub before : List ℕ
  pub count : List ℕ
  pub rest : List ℕ
  pub left : List ℕ
  pub value : Tree
  pub number : ℕ
  pub depth_is : ℕ
  pub at : place ≡ length before
  pub expects : ExpectsTop T t before (a_number nil) depth_is
  pub some : 0 < number
  pub counts : IsUnsigned number count
  pub spelled : SpellsTop T t value (before ++ (0 ∷ left))
  pub shallow : depth value ≤ limit
  pub whole : ls ≡ before ++ (count ++ rest)

spread : (c a q m : List ℕ) → c ++ ((a ++ q) ++ m) ≡ c ++ (a ++ (q ++ m))
spread c a q m = simp append_assoc

first_filled : {base : Table} {L : Bounds} {T U : Table} {t u : TypeId} {limit place : ℕ} {v : Tree} {s ls : List ℕ}
    {ds : Definitions} {w : Filled} {fs : Fillings}
    → SpellsFilled base L T t limit (filled v (filling place s ds u w fs)) ls U → FirstFilled T t limit place ls
first_filled
    (with_fillings {v = v} sp de (next_filled {left = left} {s = s} {a = a} {e = e} {n = n} {f = f}
    {ms = m} c oc ex l o' p defs may i vs g fl)) =
    record {
      before = c;
      count = a;
      rest = (s ++ (e ++ (n ++ f))) ++ m;
      left = left;
      value = v;
      number = length s;
      depth_is = _;
      at = refl;
      expects = ex;
      some = l;
      counts = p;
      spelled = sp;
      shallow = de;
      whole = spread c a (s ++ (e ++ (n ++ f))) m;
    }

pub refused_strictly : {T : Table} {t : TypeId} {limit announced place : ℕ} {prefix : List ℕ} (rest : List ℕ)
    → FirstFilled T t limit place (prefix ++ rest) → place + 9 ≤ length prefix
    → (R : Refusal) × (R.place ≡ place) × (R.reason ≡ reason.InterfaceValue) × IsFirst T t limit announced prefix R
refused_strictly {announced = announced} {prefix = prefix} rest k far =
    let few = unsigned_length k.counts in
    let at = k.at in
    let f = prefix_of (k.before ++ k.count) prefix k.rest rest (append_assoc k.before k.count k.rest ∙ sym k.whole)
    (omega (arith, length-append k.before k.count)) in
    let deep = expects_top_within (0 ∷ k.left) [] k.spelled k.expects (sym (append_nil (k.before ++ (0 ∷ k.left)))) in
    let low = k.shallow in (
      record { place = length k.before; seen = length k.before + length k.count; reason = reason.InterfaceValue },
      sym at,
      refl,
      not_allowed_first f.rest k.expects (omega arith) (shallow_before k.before (0 ∷ k.left)
          (within_shallow k.spelled k.shallow))
          (f.whole ∙ append_assoc k.before k.count f.rest) k.counts (λ e. let some = k.some in omega arith),
    )

same_table : {T : Table} → Keeps T T
same_table = record { shape = λ t s e. e }

in_turn : {T U V : Table} → Keeps T U → Keeps U V → Keeps T V
in_turn k l = record { shape = λ t s e. l.shape t s (k.shape t s e) }

definition_keeps : {base : Table} {L : Bounds} {T U : Table} {id : TypeId} {v : Tree} {b : List ℕ}
    → Defines base L T id v b U → Keeps T U
definition_keeps {T = T} (defines {id = id} {s = r} may de d i s k) =
    record { shape = λ t s e. shape_of-append T ((id, r) ∷ []) t s e }

defs_keep : {base : Table} {L : Bounds} {T U : Table} {ds : Definitions} {b : List ℕ} → AreDefined base L T ds b U
    → Keeps T U
defs_keep none_defined = same_table
defs_keep (one_defined o d ds) = in_turn (definition_keeps d) (defs_keep ds)

mutual
  pub filled_keeps : {base : Table} {L : Bounds} {T U : Table} {t : TypeId} {limit : ℕ} {v : Filled} {b : List ℕ}
      → SpellsFilled base L T t limit v b U → Keeps T U
  filled_keeps (with_fillings sp de fl) = fills_keep fl

  fills_keep : {base : Table} {L : Bounds} {T U V : Table} {t : TypeId} {limit : ℕ} {done left ls : List ℕ}
      {fs : Fillings} → Fills base L T t limit U done left fs ls V → Keeps U V
  fills_keep (as_it_stands o) = same_table
  fills_keep (next_filled c oc ex l o u ds may i vs g fl) = in_turn (defs_keep ds)
      (in_turn (filled_keeps vs) (fills_keep fl))

pub first_of : {base : Table} {L : Bounds} {T U : Table} {t u : TypeId} {limit announced place : ℕ} {v : Tree}
    {s prefix : List ℕ} (rest : List ℕ) {ds : Definitions} {w : Filled} {fs : Fillings}
    → SpellsFilled base L T t limit (filled v (filling place s ds u w fs)) (prefix ++ rest) U
    → place + 9 ≤ length prefix
    → (R : Refusal) × (R.place ≡ place) × (R.reason ≡ reason.InterfaceValue) × IsFirst T t limit announced prefix R
first_of rest p l = refused_strictly rest (first_filled p) l
