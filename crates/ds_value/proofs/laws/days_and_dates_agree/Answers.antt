use Rattle.ds_value.proofs.Calendars.{date_of_number, number_of_date}
use Rattle.ds_value.proofs.laws.days_and_dates_agree.Goals as goal

pub returns-clause-dates : goal.returns-clause-dates
returns-clause-dates c = λ n low high. date_of_number n (low, high)

pub returns-clause-days : goal.returns-clause-days
returns-clause-days c = number_of_date
