use Rattle.std.proofs.Common.{◌≡◌, ◌<◌, ◌^◌, drop}
use Rattle.std.specs.Str.{all_ascii_digits}
use Rattle.ds_value.specs.Spellings.{number_behind}
use Rattle.ds_value.proofs.numeral.number_behind.Given as goal

-- what is left decides, and goes on from the number so far
abbrev pub invariant-loop-digit : goal.invariant-loop-digit
invariant-loop-digit l = record {
  digits : all_ascii_digits (drop l.digit-index l.digits) ≡ all_ascii_digits l.digits;
  number : number_behind l.number (drop l.digit-index l.digits) ≡ number_behind l.fn.so_far l.digits;
  below : l.number < 10 ^ 38;
}
