use Rattle.std.proofs.Common.{◌≡◌, ◌+◌, ◌-◌, [], ap, arith, length, subst, sym}
use Rattle.gob_types.specs.Defined.{types}
use Rattle.gob_read.specs.Calls.Builders.{check_building}
use Rattle.gob_read.specs.Calls.UnderWay.{HasReadBody}
use Rattle.gob_filled_match.proofs.TakingLaws.{all_taken}
use Rattle.gob_filled_match.proofs.taking.take_numbers.Goals as goal

pub take_nils-requires : goal.take_nils-requires
take_nils-requires c =
    let T = types c.args.table.now in
    let b = c.args.numbered.now in
    let reader = c.in_ok-reader.reader in
    let none = c.new.ensures.items in
    let empty : length c.new.result.items ≡ 0 = ap length none in
    let read : HasReadBody check_building T c.args.id 65536 (length b) reader [] =
    c.in_ok-reader.ensures T c.requires in
    let count : length b ≡ length c.new.result.items + (length b - 0) = omega arith in (
      c.args.id,
      record {
        read = subst (λ n. HasReadBody check_building T c.args.id 65536 n reader c.new.result.items) count
            (subst (λ z. HasReadBody check_building T c.args.id 65536 (length b) reader z) (sym none) read);
        clear = c.nils_stay.ensures.begins T c.args.id 65536 (length b) read;
        inside = omega arith;
        short = omega arith;
      },
    )

pub returns : goal.returns
returns c =
    let T = types c.args.table.now in
    let b = c.args.numbered.now in
    let reader = c.in_ok-reader.reader in
    let none = c.new.ensures.items in
    let empty : length c.new.result.items ≡ 0 = ap length none in
    let read : HasReadBody check_building T c.args.id 65536 (length b) reader [] =
    c.in_ok-reader.ensures T c.requires in
    let count : length b ≡ length c.new.result.items + (length b - 0) = omega arith in
    all_taken none c.new-2.ensures.items (c.in_ok-take_nils.ensures c.args.id (record {
      read = subst (λ n. HasReadBody check_building T c.args.id 65536 n reader c.new.result.items) count
          (subst (λ z. HasReadBody check_building T c.args.id 65536 (length b) reader z) (sym none) read);
      clear = c.nils_stay.ensures.begins T c.args.id 65536 (length b) read;
      inside = omega arith;
      short = omega arith;
    }))
