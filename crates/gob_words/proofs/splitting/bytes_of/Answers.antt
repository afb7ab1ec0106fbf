-- The last character of a word says which unit it has, if one.
use Rattle.std.proofs.Common.{None, Some, arith}
use Rattle.std.proofs.lemmas.Str.Pattern.{strip_suffix_char}
use Rattle.gob_words.specs.Splitting.{giga, kilo, mega}
use Rattle.gob_words.proofs.SizeLaws.{in_no_unit, in_this_unit}
use Rattle.gob_words.proofs.splitting.bytes_of.Goals as goal

pub returns-in-Some : goal.returns-in-Some
returns-in-Some c =
    let word = c.args.word.now in
    let ends = strip_suffix_char 75 word (Some c.in-Some.digits) c.in-Some.ensures.cases (omega arith) in
    in_this_unit word c.in-Some.digits.now kilo ends c.units_of.result c.units_of.ensures

pub returns-in-Some-strip_suffix : goal.returns-in-Some-strip_suffix
returns-in-Some-strip_suffix c =
    let word = c.args.word.now in
    let ends = strip_suffix_char 77 word (Some c.in-Some-strip_suffix.digits) c.in-Some-strip_suffix.ensures.cases
    (omega arith) in
    in_this_unit word c.in-Some-strip_suffix.digits.now mega ends c.units_of-in-Some-strip_suffix.result
    c.units_of-in-Some-strip_suffix.ensures

pub returns-in-Some-strip_suffix-2 : goal.returns-in-Some-strip_suffix-2
returns-in-Some-strip_suffix-2 c =
    let word = c.args.word.now in
    let ends = strip_suffix_char 71 word (Some c.in-Some-strip_suffix-2.digits) c.in-Some-strip_suffix-2.ensures.cases
    (omega arith) in
    in_this_unit word c.in-Some-strip_suffix-2.digits.now giga ends c.units_of-in-Some-strip_suffix-2.result
    c.units_of-in-Some-strip_suffix-2.ensures

pub returns : goal.returns
returns c =
    let word = c.args.word.now in
    in_no_unit word (strip_suffix_char 75 word None c.in_default.ensures.cases (omega arith))
    (strip_suffix_char 77 word None c.in_default-strip_suffix.ensures.cases (omega arith))
    (strip_suffix_char 71 word None c.in_default-strip_suffix-2.ensures.cases (omega arith)) c.number_of.result
    c.number_of.ensures
