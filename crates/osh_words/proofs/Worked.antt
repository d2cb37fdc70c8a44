-- Lines of words that are read, and those that are refused.
use Rattle.std.proofs.Common.{◌≡◌, [], Some, None, true, false, refl}
use Rattle.std.specs.Prelude.{codes}
use Rattle.osh_words.specs.declared.command.Command.TheVariants as command
use Rattle.osh_words.specs.Spelled.{Spells}
use Rattle.osh_words.specs.Lines.{words_on, IsRefused}
use Rattle.osh_words.specs.Read.{setting_front, after_option, run_of, command_of}
use Rattle.osh_words.proofs.Sound.{read_is_spelled, refused_is_unspelled}

check_line_read : command_of (words_on (codes "check f.osh")) ≡ Some (command.Check (codes "f.osh"))
unfolding command_of run_of after_option setting_front
check_line_read = refl

pub check_line : Spells (words_on (codes "check f.osh")) (command.Check (codes "f.osh"))
check_line = read_is_spelled _ _ check_line_read

score_line_read : command_of (words_on (codes "score f.osh c.cfg")) ≡ Some (command.Score (codes "f.osh") (codes "c.cfg"))
unfolding command_of run_of after_option setting_front
score_line_read = refl

pub score_line : Spells (words_on (codes "score f.osh c.cfg")) (command.Score (codes "f.osh") (codes "c.cfg"))
score_line = read_is_spelled _ _ score_line_read

meaning_line_read : command_of (words_on (codes "meaning f.osh")) ≡ Some (command.Meaning (codes "f.osh"))
unfolding command_of run_of after_option setting_front
meaning_line_read = refl

pub meaning_line : Spells (words_on (codes "meaning f.osh")) (command.Meaning (codes "f.osh"))
meaning_line = read_is_spelled _ _ meaning_line_read

usual_read : command_of (words_on (codes "run f.osh c.cfg")) ≡ Some (command.Run false 64 16 (codes "f.osh") (codes "c.cfg"))
unfolding command_of run_of after_option setting_front
usual_read = refl

pub usual : Spells (words_on (codes "run f.osh c.cfg")) (command.Run false 64 16 (codes "f.osh") (codes "c.cfg"))
usual = read_is_spelled _ _ usual_read

all_options_read : command_of (words_on (codes "run -spill 0 -serial -cap 01024 f.osh c.cfg")) ≡ Some (command.Run true 1024 0 (codes "f.osh") (codes "c.cfg"))
unfolding command_of run_of after_option setting_front
all_options_read = refl

pub all_options : Spells (words_on (codes "run -spill 0 -serial -cap 01024 f.osh c.cfg")) (command.Run true 1024 0 (codes "f.osh") (codes "c.cfg"))
all_options = read_is_spelled _ _ all_options_read

gen_least_read : command_of (words_on (codes "gen 7 0")) ≡ Some (command.Gen 7 0)
unfolding command_of run_of after_option setting_front
gen_least_read = refl

pub gen_least : Spells (words_on (codes "gen 7 0")) (command.Gen 7 0)
gen_least = read_is_spelled _ _ gen_least_read

gen_most_read : command_of (words_on (codes "gen 0000000000001000000 9999999999999999999")) ≡ Some (command.Gen 1000000 9999999999999999999)
unfolding command_of run_of after_option setting_front
gen_most_read = refl

pub gen_most : Spells (words_on (codes "gen 0000000000001000000 9999999999999999999")) (command.Gen 1000000 9999999999999999999)
gen_most = read_is_spelled _ _ gen_most_read

no_words_read : command_of [] ≡ None
unfolding command_of run_of after_option setting_front
no_words_read = refl

pub no_words : IsRefused []
no_words = refused_is_unspelled _ no_words_read

empty_word_read : command_of (words_on []) ≡ None
unfolding command_of run_of after_option setting_front
empty_word_read = refl

pub empty_word : IsRefused (words_on [])
empty_word = refused_is_unspelled _ empty_word_read

zero_cap_read : command_of (words_on (codes "run -cap 0 f.osh c.cfg")) ≡ None
unfolding command_of run_of after_option setting_front
zero_cap_read = refl

pub zero_cap : IsRefused (words_on (codes "run -cap 0 f.osh c.cfg"))
zero_cap = refused_is_unspelled _ zero_cap_read

one_name_read : command_of (words_on (codes "run f.osh")) ≡ None
unfolding command_of run_of after_option setting_front
one_name_read = refl

pub one_name : IsRefused (words_on (codes "run f.osh"))
one_name = refused_is_unspelled _ one_name_read

high_cap_read : command_of (words_on (codes "run -cap 1025 f.osh c.cfg")) ≡ None
unfolding command_of run_of after_option setting_front
high_cap_read = refl

pub high_cap : IsRefused (words_on (codes "run -cap 1025 f.osh c.cfg"))
high_cap = refused_is_unspelled _ high_cap_read

high_spill_read : command_of (words_on (codes "run -spill 1025 f.osh c.cfg")) ≡ None
unfolding command_of run_of after_option setting_front
high_spill_read = refl

pub high_spill : IsRefused (words_on (codes "run -spill 1025 f.osh c.cfg"))
high_spill = refused_is_unspelled _ high_spill_read

twice_read : command_of (words_on (codes "run -serial -serial f.osh c.cfg")) ≡ None
unfolding command_of run_of after_option setting_front
twice_read = refl

pub twice : IsRefused (words_on (codes "run -serial -serial f.osh c.cfg"))
twice = refused_is_unspelled _ twice_read

cap_twice_read : command_of (words_on (codes "run -cap 1 -cap 1 f.osh c.cfg")) ≡ None
unfolding command_of run_of after_option setting_front
cap_twice_read = refl

pub cap_twice : IsRefused (words_on (codes "run -cap 1 -cap 1 f.osh c.cfg"))
cap_twice = refused_is_unspelled _ cap_twice_read

options_behind_read : command_of (words_on (codes "run f.osh c.cfg -serial")) ≡ None
unfolding command_of run_of after_option setting_front
options_behind_read = refl

pub options_behind : IsRefused (words_on (codes "run f.osh c.cfg -serial"))
options_behind = refused_is_unspelled _ options_behind_read

signed_read : command_of (words_on (codes "run -cap +1 f.osh c.cfg")) ≡ None
unfolding command_of run_of after_option setting_front
signed_read = refl

pub signed : IsRefused (words_on (codes "run -cap +1 f.osh c.cfg"))
signed = refused_is_unspelled _ signed_read

twenty_digits_read : command_of (words_on (codes "gen 00000000000000000007 0")) ≡ None
unfolding command_of run_of after_option setting_front
twenty_digits_read = refl

pub twenty_digits : IsRefused (words_on (codes "gen 00000000000000000007 0"))
twenty_digits = refused_is_unspelled _ twenty_digits_read

few_orders_read : command_of (words_on (codes "gen 6 0")) ≡ None
unfolding command_of run_of after_option setting_front
few_orders_read = refl

pub few_orders : IsRefused (words_on (codes "gen 6 0"))
few_orders = refused_is_unspelled _ few_orders_read

dash_read : command_of (words_on (codes "check -f")) ≡ None
unfolding command_of run_of after_option setting_front
dash_read = refl

pub dash : IsRefused (words_on (codes "check -f"))
dash = refused_is_unspelled _ dash_read

quote_read : command_of (words_on (codes "check it's")) ≡ None
unfolding command_of run_of after_option setting_front
quote_read = refl

pub quote : IsRefused (words_on (codes "check it's"))
quote = refused_is_unspelled _ quote_read

no_name_read : command_of (words_on (codes "check ")) ≡ None
unfolding command_of run_of after_option setting_front
no_name_read = refl

pub no_name : IsRefused (words_on (codes "check "))
no_name = refused_is_unspelled _ no_name_read

one_more_read : command_of (words_on (codes "meaning f.osh c.cfg")) ≡ None
unfolding command_of run_of after_option setting_front
one_more_read = refl

pub one_more : IsRefused (words_on (codes "meaning f.osh c.cfg"))
one_more = refused_is_unspelled _ one_more_read

upper_case_read : command_of (words_on (codes "Check f.osh")) ≡ None
unfolding command_of run_of after_option setting_front
upper_case_read = refl

pub upper_case : IsRefused (words_on (codes "Check f.osh"))
upper_case = refused_is_unspelled _ upper_case_read
