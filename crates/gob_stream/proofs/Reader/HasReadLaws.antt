-- What a session has read, for its caller.
use Rattle.std.proofs.Common.{◌≡◌, ℕ, ◌+◌, ◌≤◌, min, List, [], length, arith, sym, ap, ◌∙◌, subst, length-append, refl}
use Rattle.std.proofs.lemmas.List.{append-nil}
use Rattle.gob_types.specs.Base.{base_table}
use Rattle.gob_types.specs.Defined.{types, Defined}
use Rattle.gob_types.specs.Table.{Table}
use Rattle.gob_read.specs.Building.{Building}
use Rattle.gob_stream.specs.declared.fault.Refusal.{Refusal}
use Rattle.gob_stream.specs.Machine.SessionState.{SessionState}
use Rattle.gob_stream.specs.Bounds.{Bounds, no_deeper}
use Rattle.gob_stream.specs.Item.{StreamItem}
use Rattle.gob_stream.specs.Calls.SessionLaws.{GivesWhatItRead}
use Rattle.gob_stream.specs.Outcome.{RefusesNext}
use Rattle.gob_stream.specs.Reading.{ShowsRefusal, HasTypesBehind}
use Rattle.gob_stream.specs.Machine.HasRead.{HasRead, StageHasRead, in_count}
use Rattle.gob_stream.proofs.Reader.AdvanceSteps.{in_bound, ends_within}
use Rattle.gob_stream.proofs.Stream.StreamLaws.{give_one_list}
use Rattle.gob_stream.proofs.Stream.OutcomeLaws.{one_prefix}
use Rattle.gob_stream.proofs.Reader.SessionSteps.{refused_there}
use Rattle.gob_stream.proofs.Reader.UnderWayLaws.{after_gives, stands_unrefused}
use Rattle.gob_num.specs.Unsigned.{IsUnsignedPrefix}
use Rattle.gob_num.proofs.PublicLaws.{begins_prefix}
use Rattle.gob_stream.specs.declared.count.CountStage.{CountStage}
use Rattle.gob_stream.specs.declared.stage.Stage.TheVariants as stage
use Rattle.gob_stream.specs.Stream.{Stream, no_more}

no_bytes : IsUnsignedPrefix []
no_bytes = begins_prefix {bytes = []} tt

pub new_stands : {X O : Type 0} {most : ℕ} {building : Building X O most} {L : Bounds} {d : Defined}
    {first : CountStage} → types d ≡ base_table → d.most ≡ L.types
    → first ≡ record { begin = 0; number = [] }
    → HasRead building (record {
      limits = L;
      types = d;
      taken = 0;
      stage =
          stage.Count first;
    }) [] []
new_stands {most = most} {building = building} {L = L} {d = d} e m f = record {
  prefix = [];
  under_way = [];
  whole = refl;
  stream = subst (λ (T : Table). Stream base_table (no_deeper most L) [] [] T) (sym e) no_more;
  stage = subst (λ n. StageHasRead building (no_deeper most L) (types d) 0 (stage.Count n) [])
      (sym f) (in_count no_bytes);
  taken = refl;
  room = m;
}

pub limits_stay : (most : ℕ) (L : Bounds) → L.depth ≤ most → no_deeper most L ≡ L
limits_stay most L deep =
    let with_depth : ℕ → Bounds = λ d. record { item = L.item; depth = d; types = L.types; stream = L.stream } in
    let e : min L.depth most ≡ L.depth = omega arith in
    ap with_depth e

pub one_table : (L : Bounds) (bytes : List ℕ) (items : List StreamItem) (T U : Table) → HasTypesBehind L bytes items T
    → HasTypesBehind L bytes items U → T ≡ U
one_table L bytes items T U p q = (one_prefix p.rest q.rest p.stream q.stream (sym p.whole ∙ q.whole)).table

pub stands_within : {X O : Type 0} {most : ℕ} {building : Building X O most} {s : SessionState X O}
    {items : List StreamItem} {bytes : List ℕ}
    → HasRead building s items bytes → length bytes ≤ s.limits.stream + 9
stands_within a = let prefix = ends_within a.stream (omega arith) in let n = in_bound a.stage (omega arith) in
    omega (arith, ap length a.whole, length-append a.prefix a.under_way)

pub stands_types : {X O : Type 0} {most : ℕ} {building : Building X O most} {s : SessionState X O}
    {items : List StreamItem} {bytes : List ℕ}
    → HasRead building s items bytes → HasTypesBehind (no_deeper most s.limits) bytes items
    (types s.types)
stands_types a = record { prefix = a.prefix; rest = a.under_way; stream = a.stream; whole = a.whole }

unrefused : {X O : Type 0} {most : ℕ} {building : Building X O most} {s : SessionState X O}
    {items others : List StreamItem} {bytes : List ℕ} {R : Refusal}
    → HasRead building s items bytes → ¬ ShowsRefusal (no_deeper most s.limits) bytes others R
unrefused {most = most} {s = s} {items = items} {others = others} {bytes = bytes} {R = R} a h =
    let L = no_deeper most s.limits in
    let same : others ≡ items = give_one_list base_table L bytes others items h.outcome.gives (after_gives a) in
    let here = subst (λ l. ShowsRefusal L bytes l R) same h in
    let there = refused_there [] a (subst (λ b. ShowsRefusal L b items R) (sym (append-nil bytes)) here) in
    stands_unrefused a.stage (subst (λ z. RefusesNext base_table L (types s.types) (length a.prefix) z R)
    (append-nil a.under_way) there)

pub gives_what_stands : {X O : Type 0} {most : ℕ} (building : Building X O most) → GivesWhatItRead building
gives_what_stands building = record {
  items = λ s items bytes a. after_gives a;
  unrefused = λ s items others bytes R a. unrefused a;
  types_behind = λ s items bytes a. stands_types a;
  within = λ s items bytes a. stands_within a;
}
