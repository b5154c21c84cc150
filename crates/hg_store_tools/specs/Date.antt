-- The date of a moment, by the calendar that has a leap day in every fourth year, but of the hundredth ones in every
-- fourth alone; and its text.
use Rattle.std.specs.Prelude.{ℕ, zero, suc, ◌≡◌, ◌+◌, ◌-◌, ◌*◌, ◌%◌, ◌<◌, ◌≤◌, Bool, false, not, ◌&&◌, ◌||◌, ◌==◌}
use Rattle.std.specs.Prelude.{if◌then◌else◌}
use Rattle.std.specs.Prelude.{List, [], ◌^◌, ◌++◌, codes, decimal}
use Rattle.std.specs.Fmt.{format_spec, padded_integral}
use Rattle.hg_store_tools.specs.declared.date.Date.{Date}

abbrev pub is_leap : ℕ → Bool
is_leap year = (year % 4 == 0) && (not (year % 100 == 0) || (year % 400 == 0))

abbrev pub days_of_year : ℕ → ℕ
days_of_year year = if is_leap year then 366 else 365

abbrev pub days_of_month : ℕ → ℕ → ℕ
days_of_month year month = if month == 2 then (if is_leap year then 29 else 28)
    else (if (month == 4) || ((month == 6) || ((month == 9) || (month == 11))) then 30 else 31)

-- the days of so many years, the first of which is 1970
unfoldable pub days_of_years : ℕ → ℕ
days_of_years zero = 0
days_of_years (suc count) = days_of_years count + days_of_year (1970 + count)

-- the days of the first so many months of a year
unfoldable pub days_of_months : ℕ → ℕ → ℕ
days_of_months year zero = 0
days_of_months year (suc count) = days_of_months year count + days_of_month year (1 + count)

-- A day, which has so many before it since the beginning of 1970, is in this year, and has so many of that year before
-- it.
pub record IsDayOfYear (day year before : ℕ) : Type 0 where
  pub first : 1970 ≤ year
  pub last : year ≤ 9999
  pub within : before < days_of_year year
  pub is : day ≡ days_of_years (year - 1970) + before

-- A day, which has so many of its year before it, is in this month, and has so many of that month before it.
pub record IsDayOfMonth (year day month before : ℕ) : Type 0 where
  pub first : 1 ≤ month
  pub last : month ≤ 12
  pub within : before < days_of_month year month
  pub is : day ≡ days_of_months year (month - 1) + before

-- The moment that is so many seconds after the beginning of 1970 has this date: the day is one of the calendar, and
-- the seconds are those of the days before it, and those of the time of the day.
pub record IsDateOf (seconds : ℕ) (date : Date) : Type 0 where
  pub first_year : 1970 ≤ date.year
  pub last_year : date.year ≤ 9999
  pub first_month : 1 ≤ date.month
  pub last_month : date.month ≤ 12
  pub first_day : 1 ≤ date.day
  pub last_day : date.day ≤ days_of_month date.year date.month
  pub hour : date.hour < 24
  pub minute : date.minute < 60
  pub second : date.second < 60
  pub is : seconds ≡ (days_of_years (date.year - 1970) + days_of_months date.year (date.month - 1) + (date.day - 1)) * 86400
      + date.hour * 3600 + date.minute * 60 + date.second

-- a number in at least so many decimal digits, with zeros before it
abbrev pub in_digits : ℕ → ℕ → List ℕ
in_digits width n = padded_integral (format_spec 32 0 4 width (2 ^ 64 - 1)) false [] (decimal n)

-- `2026-11-30`
unfoldable pub day_text : Date → List ℕ
day_text date = in_digits 4 date.year ++ (codes "-" ++ (in_digits 2 date.month ++ (codes "-" ++ in_digits 2 date.day)))

-- `T05:31:07Z`
unfoldable pub time_text : Date → List ℕ
time_text date = codes "T" ++ (in_digits 2 date.hour ++ (codes ":" ++ (in_digits 2 date.minute ++ (codes ":"
    ++ (in_digits 2 date.second ++ codes "Z")))))
