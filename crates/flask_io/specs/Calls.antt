-- The calls of a stream in memory, of which listed ones fail.
use Rattle.std.specs.Prelude.{ℕ, ◌+◌, ◌-◌, ◌^◌, min, Bool, true, false, ◌==◌, List}
use Rattle.std.specs.List.{list_any}
use Rattle.flask_io.specs.declared.source.Got.{Got}
use Rattle.flask_io.specs.declared.source.Got.TheVariants.{Failed}
use Rattle.flask_io.specs.declared.sink.Put.{Put}
use Rattle.flask_io.specs.declared.sink.Put.TheVariants.{Failed as Refused}

-- how many calls were asked, the numbers from 1 of those that fail, and how many failed
pub record Calls : Type 0 where
  pub asked : ℕ
  pub failing : List ℕ
  pub faults : ℕ

-- a stream of which no call was asked yet, by the numbers of those that fail
abbrev pub none_of : List ℕ → Calls
none_of failing = record { asked = 0; failing = failing; faults = 0 }

-- a number and one more, but for the greatest number of 64 bits, which stays
abbrev pub counted : ℕ → ℕ
counted n = min (n + 1) (2 ^ 64 - 1)

-- the next call is among those that fail
abbrev pub is_due : Calls → Bool
is_due calls = list_any (λ number. number == counted calls.asked) calls.failing

-- with one failure more
abbrev pub failed_of : Calls → Calls
failed_of calls = record calls { faults = counted calls.faults }

-- one call more, which failed or did not
abbrev pub one_more : Calls → Bool → Calls
one_more calls true = record { asked = counted calls.asked; failing = calls.failing; faults = counted calls.faults }
one_more calls false = record { asked = counted calls.asked; failing = calls.failing; faults = calls.faults }

-- one call more, which fails where its number is listed
abbrev pub next_of : Calls → Calls
next_of calls = one_more calls (is_due calls)

-- what a read answered is a failure
abbrev pub is_failed : Got → Bool
is_failed Failed = true
is_failed got = false

-- what a write answered is a failure
abbrev pub is_refused : Put → Bool
is_refused Refused = true
is_refused put = false
