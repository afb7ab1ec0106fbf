use Rattle.std.proofs.Common.{length, arith, refl, ap, length-append}
use Rattle.gob_stream.proofs.Reader.StageSteps.{under_way, count_answers, number_answers, value_answers}
use Rattle.gob_stream.proofs.Reader.StageSteps.{description_answers}
use Rattle.gob_stream.proofs.stage.Stage.take.Goals as goal

pub take-requires-clause-offset : goal.take-requires-clause-offset
take-requires-clause-offset g c =
    let w = under_way c.in-Count.is c.requires.has_read in
    let b = w.parts.begins in let l = w.within in let most = c.stream-most.ensures.limits.stream in omega arith

pub take-requires-clause-taken : goal.take-requires-clause-taken
take-requires-clause-taken g c =
    let w = under_way c.in-Count.is c.requires.has_read in
    let b = w.parts.begins in let t = w.taken_is in omega (arith, ap length w.parts.bytes)

pub take-requires-clause-prefix : goal.take-requires-clause-prefix
take-requires-clause-prefix g c = (under_way c.in-Count.is c.requires.has_read).parts.prefix

pub returns-in-Count : goal.returns-in-Count
returns-in-Count g c =
    count_answers c.in-Count.is (record { item = refl; stream = refl }) c.requires.some c.take.ensures

pub take-requires-in-TypeNumber-clause-known : goal.take-requires-in-TypeNumber-clause-known
take-requires-in-TypeNumber-clause-known g c =
    let w = under_way c.in-TypeNumber.is c.requires.has_read in record { base = w.known.base; most = w.known.most }

pub take-requires-in-TypeNumber-clause-counted : goal.take-requires-in-TypeNumber-clause-counted
take-requires-in-TypeNumber-clause-counted g c =
    let w = under_way c.in-TypeNumber.is c.requires.has_read in
    record { offset = w.offset; size = w.parts.m; bytes = w.parts.c; is = w.parts.count }

pub take-requires-in-TypeNumber-clause-begin : goal.take-requires-in-TypeNumber-clause-begin
take-requires-in-TypeNumber-clause-begin g c =
    let w = under_way c.in-TypeNumber.is c.requires.has_read in
    let b = w.parts.count.begin in let t = w.taken_is in omega (
      arith,
      ap length w.parts.whole,
      length-append w.parts.c c.in-TypeNumber.type_number.number,
    )

pub take-requires-in-TypeNumber-clause-room : goal.take-requires-in-TypeNumber-clause-room
take-requires-in-TypeNumber-clause-room g c =
    let w = under_way c.in-TypeNumber.is c.requires.has_read in
    let b = w.parts.count.begin in let e = w.parts.count.end in let r = w.parts.room in let t = w.taken_is in
    omega (arith, ap length w.parts.whole, length-append w.parts.c c.in-TypeNumber.type_number.number)

pub take-requires-in-TypeNumber-clause-end : goal.take-requires-in-TypeNumber-clause-end
take-requires-in-TypeNumber-clause-end g c =
    let w = under_way c.in-TypeNumber.is c.requires.has_read in
    let b = w.parts.count.begin in let e = w.parts.count.end in let s = w.parts.count.stream in let most =
    c.stream-most.ensures.limits.stream in omega arith

pub take-requires-in-TypeNumber-clause-prefix : goal.take-requires-in-TypeNumber-clause-prefix
take-requires-in-TypeNumber-clause-prefix g c = (under_way c.in-TypeNumber.is c.requires.has_read).parts.prefix

pub returns-in-TypeNumber : goal.returns-in-TypeNumber
returns-in-TypeNumber g c = number_answers c.in-TypeNumber.is c.take-in-TypeNumber.ensures

pub take-requires-in-Value : goal.take-requires-in-Value
take-requires-in-Value g c =
    let p = (under_way c.in-Value.is c.requires.has_read).parts in record {
      limit = _;
      bytes = p.y;
      after =
          p.behind.after;
      order = p.rest_is.within;
    }

pub returns-in-Value : goal.returns-in-Value
returns-in-Value g c =
    value_answers c.in-Value.is (under_way c.in-Value.is c.requires.has_read) c.requires.some c.take-in-Value.ensures

pub take-requires-in-Description-clause-has_read : goal.take-requires-in-Description-clause-has_read
take-requires-in-Description-clause-has_read g c =
    let p = (under_way c.in-Description.is c.requires.has_read).parts in record {
      limit = _;
      bytes = p.y;
      after =
          p.behind.after;
      order = p.rest_is.within;
    }

pub take-requires-in-Description-clause-keeps : goal.take-requires-in-Description-clause-keeps
take-requires-in-Description-clause-keeps g c = (under_way c.in-Description.is c.requires.has_read).known.base

pub returns-in-Description : goal.returns-in-Description
returns-in-Description g c =
    description_answers c.in-Description.is (under_way c.in-Description.is c.requires.has_read) c.requires.some
    c.take-in-Description.ensures
