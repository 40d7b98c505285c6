use Rattle.std.proofs.Common.{◌≡◌, ◌<◌, ◌^◌, true, take}
use Rattle.std.specs.List.{list_all}
use Rattle.std.specs.Str.Parse.{digits_value}
use Rattle.text_lines.specs.Numerals.{is_digit}
use Rattle.text_lines.proofs.numerals.value_of.Given as goal

abbrev pub invariant-digits : goal.invariant-digits
invariant-digits l = record {
  digits : list_all is_digit (take l.digit-index l.digits) ≡ true;
  so_far : l.value ≡ digits_value 10 (take l.digit-index l.digits);
  small : l.value < 10 ^ l.digit-index;
}
