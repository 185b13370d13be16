-- The civil date of a moment is the calendar's.
use Rattle.std.proofs.Common.{◌≡◌, ◌∙◌, sym, ap, refl, append_assoc, ℕ, zero, suc, ◌+◌, ◌*◌, ◌-◌, ◌/◌, ◌%◌, ◌<◌, ◌≤◌, ◌++◌, ◌∷◌, Bool, true, false, cond, nat_lt, arith}
use Rattle.std.specs.Prelude.{List, pos, ◌+ℤ◌, unsigned_abs}
use Rattle.std.proofs.lemmas.Bool.Decides.{nat_tests}
use Rattle.tpcc_money.specs.declared.moment.TheConstants.Moment.{LAST_SECOND}
use Rattle.jiff_core.specs.Calendar.{days_in_month, days_in_year, day_count}
use Rattle.jiff_core.specs.Date.{epoch_day}
use Rattle.jiff_core.specs.DateTime.{civil_nanos}
use Rattle.jiff_core.specs.Time.{time_nanos}
use Rattle.jiff_core.specs.declared.civil.date.Date.{Date}
use Rattle.jiff_core.specs.declared.civil.datetime.DateTime.{DateTime}
use Rattle.jiff_core.proofs.SignedLemmas.{signed_arith}
use Rattle.jiff_core.proofs.CalendarLemmas.{days_from_civil-day_count, days_in_year_bounds, day_count-epoch, day_count-next_year, day_count-next_month, day_count-day, day_count-last_of_year}
use Rattle.jiff_core.proofs.DateLemmas.{epoch_day_injective}
use Rattle.jiff_core.proofs.DateTimeLemmas.{civil_nanos-parts, time_nanos_bound}
use Rattle.tpcc_money.specs.Texts.{padded_number, year_and_day, month_and_day, date_text, time_text, moment_text}

-- what is written of a civil date and time
abbrev pub civil_text : DateTime → List ℕ
civil_text civil = padded_number 4 (unsigned_abs civil.date.year)
    ++ 45 ∷ (padded_number 2 civil.date.month ++ 45 ∷ (padded_number 2 civil.date.day
    ++ 84 ∷ (padded_number 2 civil.time.hour ++ 58 ∷ (padded_number 2 civil.time.minute ++ 58 ∷ padded_number 2 civil.time.second))))

-- so many days from 1 January of the year -10000 lie before the day of that place in the year, which has such a day
pub record IsDayOfYear (count year day : ℕ) : Type 0 where
  pub counted : day_count (pos year) 1 1 + day ≡ count
  pub within : day < days_in_year (pos year)

next_year : (year : ℕ) → day_count (pos (year + 1)) 1 1 ≡ day_count (pos year) 1 1 + days_in_year (pos year)
next_year year = day_count-next_year (pos year) (pos (year + 1)) (omega (arith, signed_arith)) (omega (arith, signed_arith))

year_by : (year day count : ℕ) (further : ℕ × ℕ) (here : Bool) → nat_lt day (days_in_year (pos year)) ≡ here → day_count (pos year) 1 1 + day ≡ count
    → (days_in_year (pos year) ≤ day → IsDayOfYear count further.0 further.1) → let r = cond here (year, day) further in IsDayOfYear count r.0 r.1
year_by year day count further true here e later = record { counted = e; within = grind (arith, nat_tests) }
year_by year day count further false here e later = later (grind (arith, nat_tests))

year_and_day_is : (years year day count : ℕ) → day_count (pos year) 1 1 + day ≡ count → day < 365 * (years + 1)
    → let r = year_and_day years year day in IsDayOfYear count r.0 r.1
unfolding year_and_day
year_and_day_is zero year day count e small = record { counted = e; within = omega (arith, days_in_year_bounds (pos year)) }
year_and_day_is (suc years) year day count e small =
    year_by year day count (year_and_day years (year + 1) (day - days_in_year (pos year))) (nat_lt day (days_in_year (pos year))) refl e
    (λ past. year_and_day_is years (year + 1) (day - days_in_year (pos year)) count (omega (arith, next_year year, e, past)) (omega (arith, days_in_year_bounds (pos year), past, small)))

-- the calendar has the date, and so many days from 1 January of the year -10000 lie before it
pub record IsDate (count year month day : ℕ) : Type 0 where
  pub first_month : 1 ≤ month
  pub last_month : month ≤ 12
  pub first_day : 1 ≤ day
  pub last_day : day ≤ days_in_month (pos year) month
  pub counted : day_count (pos year) month day ≡ count

in_month : (year month day count : ℕ) → 1 ≤ month → month ≤ 12 → day < days_in_month (pos year) month → day_count (pos year) month 1 + day ≡ count → IsDate count year month (day + 1)
in_month year month day count low high within counted = record {
  first_month = low;
  last_month = high;
  first_day = omega arith;
  last_day = omega (arith, within);
  counted = omega (arith, counted, day_count-day (pos year) month (day + 1) 1 (omega arith) (omega arith));
}

month_by : (year month day count : ℕ) (further : ℕ × ℕ) (here : Bool) → nat_lt day (days_in_month (pos year) month) ≡ here → 1 ≤ month → month ≤ 12 → day_count (pos year) month 1 + day ≡ count
    → (days_in_month (pos year) month ≤ day → IsDate count year further.0 further.1) → let r = cond here (month, day + 1) further in IsDate count year r.0 r.1
month_by year month day count further true here low high e later = in_month year month day count low high (grind (arith, nat_tests)) e
month_by year month day count further false here low high e later = later (grind (arith, nat_tests))

december : (year day count : ℕ) → day_count (pos year) 12 1 + day ≡ count → count < day_count (pos year) 1 1 + days_in_year (pos year) → day < days_in_month (pos year) 12
december year day count e small = omega (arith, e, small, day_count-last_of_year (pos year), day_count-day (pos year) 12 31 1 (omega arith) (omega arith))

month_and_day_is : (year months month day count : ℕ) → 1 ≤ month → month + months ≡ 12 → day_count (pos year) month 1 + day ≡ count → count < day_count (pos year) 1 1 + days_in_year (pos year)
    → let r = month_and_day year months month day in IsDate count year r.0 r.1
unfolding month_and_day
month_and_day_is year zero month day count low e counted small =
    let last : month ≡ 12 = omega (arith, e) in
    in_month year month day count low (omega (arith, e)) (rw last (december year day count (rw (sym last) counted) small)) counted
month_and_day_is year (suc months) month day count low e counted small =
    month_by year month day count (month_and_day year months (month + 1) (day - days_in_month (pos year) month)) (nat_lt day (days_in_month (pos year) month)) refl low (omega (arith, e)) counted
    (λ past. month_and_day_is year months (month + 1) (day - days_in_month (pos year) month) count (omega arith) (omega (arith, e)) (omega (arith, counted, past, day_count-next_month (pos year) month low)) small)

-- the library's date with that count is the date
pub date_is : (a : Date) (count year month day : ℕ) → IsDate count year month day → year ≤ 9999 → epoch_day a +ℤ pos 4371953 ≡ pos count
    → (a.year ≡ pos year) × (a.month ≡ month) × (a.day ≡ day)
date_is a count year month day is small e =
    let b : Date = record {
      year = pos year;
      month = month;
      day = day;
      year_in = omega (arith, signed_arith, small);
      month_in = (is.first_month, is.last_month);
      day_in = (is.first_day, is.last_day);
    } in
    epoch_day_injective a b (omega (arith, signed_arith, e, is.counted, days_from_civil-day_count (pos year) month day))

year_bound_by : (here : Bool) (year day bound : ℕ) (further : ℕ × ℕ) → year ≤ bound → further.0 ≤ bound → (cond here (year, day) further).0 ≤ bound
year_bound_by true year day bound further h k = h
year_bound_by false year day bound further h k = k

-- the years that are tried end long before the calendar does
year_bound : (years year day : ℕ) → (year_and_day years year day).0 ≤ year + years
unfolding year_and_day
year_bound zero year day = omega arith
year_bound (suc years) year day =
    year_bound_by (nat_lt day (days_in_year (pos year))) year day (year + suc years) (year_and_day years (year + 1) (day - days_in_year (pos year))) (omega arith)
    (omega (arith, year_bound years (year + 1) (day - days_in_year (pos year))))

-- the parts in the order in which they are written, and as the text puts them together
parts_regroup : (year month day hour minute second : List ℕ)
    → year ++ 45 ∷ (month ++ 45 ∷ (day ++ 84 ∷ (hour ++ 58 ∷ (minute ++ 58 ∷ second)))) ≡ ((year ++ 45 ∷ month) ++ 45 ∷ day) ++ 84 ∷ ((hour ++ 58 ∷ minute) ++ 58 ∷ second)
parts_regroup year month day hour minute second =
    let time = (hour ++ 58 ∷ minute) ++ 58 ∷ second in
    sym (append_assoc (year ++ 45 ∷ month) (45 ∷ day) (84 ∷ time)
    ∙ append_assoc year (45 ∷ month) (45 ∷ (day ++ 84 ∷ time))
    ∙ ap (λ rest. year ++ 45 ∷ (month ++ 45 ∷ (day ++ 84 ∷ rest))) (append_assoc hour (58 ∷ minute) (58 ∷ second)))

text_by : (civil : DateTime) (year month day seconds : ℕ) → civil.date.year ≡ pos year → civil.date.month ≡ month → civil.date.day ≡ day
    → civil.time.hour ≡ seconds / 3600 → civil.time.minute ≡ seconds / 60 % 60 → civil.time.second ≡ seconds % 60
    → civil_text civil ≡ date_text year month day ++ 84 ∷ time_text seconds
text_by civil year month day seconds y mo d h mi s =
    rw (y, mo, d, h, mi, s) (parts_regroup (padded_number 4 year) (padded_number 2 month) (padded_number 2 day) (padded_number 2 (seconds / 3600)) (padded_number 2 (seconds / 60 % 60)) (padded_number 2 (seconds % 60)))

-- and the text of that moment
pub text_is : (civil : DateTime) (s : ℕ) → s ≤ LAST_SECOND → civil_nanos civil ≡ pos (s * 1000000000) → civil_text civil ≡ moment_text s
unfolding moment_text
text_is civil s small e =
    let parts = civil_nanos-parts civil in
    let bound = time_nanos_bound civil.time in
    let day : epoch_day civil.date ≡ pos (s / 86400) = omega (arith, signed_arith, parts, bound, e) in
    let time : time_nanos civil.time ≡ s % 86400 * 1000000000 = omega (arith, signed_arith, parts, bound, e) in
    let hour : civil.time.hour ≡ s % 86400 / 3600 = omega (arith, time) in
    let minute : civil.time.minute ≡ s % 86400 / 60 % 60 = omega (arith, time) in
    let second : civil.time.second ≡ s % 86400 % 60 = omega (arith, time) in
    let year = year_and_day 130 1970 (s / 86400) in
    let in_year : IsDayOfYear (4371953 + s / 86400) year.0 year.1 = year_and_day_is 130 1970 (s / 86400) (4371953 + s / 86400) (omega (arith, day_count-epoch)) (omega (arith, small)) in
    let date = month_and_day year.0 11 1 year.1 in
    let is : IsDate (4371953 + s / 86400) year.0 date.0 date.1 = month_and_day_is year.0 11 1 year.1 (4371953 + s / 86400) (omega arith) refl in_year.counted (omega (arith, in_year.counted, in_year.within)) in
    let year_small : year.0 ≤ 9999 = omega (arith, year_bound 130 1970 (s / 86400)) in
    let same = date_is civil.date (4371953 + s / 86400) year.0 date.0 date.1 is year_small (omega (arith, signed_arith, day)) in
    text_by civil year.0 date.0 date.1 (s % 86400) same.0 same.1 same.2 hour minute second
