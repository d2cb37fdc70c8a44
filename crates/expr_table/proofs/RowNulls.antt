-- Each row's fault is NullUsed exactly where null is misused.
use Rattle.std.proofs.Common.{◌≡◌, ◌^◌, Bool, true, false, List, [], ◌∷◌, ℕ, zero, suc, ◌-◌, ℤ, unsigned_abs, Some, Ok, refl, subst, length, max, slice_get, ◌++◌}
use Rattle.std.specs.Prelude.{◌-ℤ◌, ◌+ℤ◌, ◌*ℤ◌, neg_ℤ, pos, not, int_div, int_rem}
use Rattle.std.specs.Int.{int_min, int_max, int_signum}
use Rattle.std.specs.declared.cmp.Ordering.{Ordering}
use Rattle.ds_value.specs.Calendar.{year_of, month_of, day_of}
use Rattle.ds_value.specs.Values.{value_cmp}
use Rattle.expr_table.specs.declared.entry.Shape.TheVariants as shape
use Rattle.expr_table.specs.declared.entry.FnName.TheVariants as fn
use Rattle.expr_table.specs.declared.entry.Entry.{Entry}
use Rattle.expr_table.specs.declared.arg.Arg.{Arg}
use Rattle.expr_table.specs.declared.arg.Arg.TheVariants.{Num, Text, Date, Truth}
use Rattle.expr_table.specs.Calls.{NullsAreExact}
use Rattle.expr_table.specs.Meaning.{◌>>=◌, bounded, number, raised, numbers, order_of, compared, as_value, is_equal, is_less, is_greater, first_given, choice, nearest_ℤ}
use Rattle.expr_table.specs.TableRows.{rows, shapes}
use Rattle.expr_table.proofs.Nulls.{Spares, then_spares, bounded_spares, number_spares, date_spares, text_spares, divided_spares, brought_spares, both_spares, Exact, Always, no, num_case, text_case, date_case, truth_case, one, two, three}

compared_spares : (test : Ordering → Bool) (p q : ℕ) (a b : Arg) → Spares (compared test (p ∷ q ∷ []) (a ∷ b ∷ []))
compared_spares test p q a b = then_spares (order_of (p ∷ q ∷ []) (a ∷ b ∷ [])) (λ o. Ok (Truth (test o))) (both_spares p q a b (λ x y. Ok (value_cmp (as_value x) (as_value y))) (λ x y h. cc)) (λ o h. cc)

numbers_spares : (p q : ℕ) (a b : ℤ) (f : ℤ × ℤ → ℤ) → Spares (numbers (p ∷ q ∷ []) (Num a ∷ Num b ∷ []) >>= λ n. number (f n))
numbers_spares p q a b f =
    then_spares (numbers (p ∷ q ∷ []) (Num a ∷ Num b ∷ [])) (λ n. number (f n))
    (then_spares (bounded (raised p (max p q) a)) (λ x. bounded (raised q (max p q) b) >>= λ y. Ok (x, y)) (bounded_spares (raised p (max p q) a)) (λ x. then_spares (bounded (raised q (max p q) b)) (λ y. Ok (x, y)) (bounded_spares (raised q (max p q) b)) (λ y h. cc)))
    (λ n. number_spares (f n))

chosen_spares : (test : Bool) (p q r : ℕ) (a b : Arg) → Spares (choice (p ∷ q ∷ r ∷ []) (Truth test ∷ a ∷ b ∷ []))
chosen_spares true p q r a b = brought_spares q (max q r) a
chosen_spares false p q r a b = brought_spares r (max q r) b

abbrev pub EachExact : List Entry → Type 0
EachExact [] = Unit {0}
EachExact (e ∷ es) = Always e.name (shapes e) × EachExact es

each_exact : EachExact rows
each_exact = (
  two fn.Equal shape.Num shape.Num (λ p q a b i j. no (compared_spares is_equal p q a b)),
  (
    two fn.Equal shape.Text shape.Text (λ p q a b i j. no (compared_spares is_equal p q a b)),
    (
      two fn.Equal shape.Date shape.Date (λ p q a b i j. no (compared_spares is_equal p q a b)),
      (
        two fn.NotEqual shape.Num shape.Num (λ p q a b i j. no (compared_spares (λ o. not (is_equal o)) p q a b)),
        (
          two fn.NotEqual shape.Text shape.Text (λ p q a b i j. no (compared_spares (λ o. not (is_equal o)) p q a b)),
          (
            two fn.NotEqual shape.Date shape.Date (λ p q a b i j. no (compared_spares (λ o. not (is_equal o)) p q a b)),
            (
              two fn.Less shape.Num shape.Num (λ p q a b i j. no (compared_spares is_less p q a b)),
              (
                two fn.Less shape.Text shape.Text (λ p q a b i j. no (compared_spares is_less p q a b)),
                (
                  two fn.Less shape.Date shape.Date (λ p q a b i j. no (compared_spares is_less p q a b)),
                  (
                    two fn.AtMost shape.Num shape.Num (λ p q a b i j. no (compared_spares (λ o. not (is_greater o)) p q a b)),
                    (
                      two fn.AtMost shape.Text shape.Text (λ p q a b i j. no (compared_spares (λ o. not (is_greater o)) p q a b)),
                      (
                        two fn.AtMost shape.Date shape.Date (λ p q a b i j. no (compared_spares (λ o. not (is_greater o)) p q a b)),
                        (
                          two fn.Greater shape.Num shape.Num (λ p q a b i j. no (compared_spares is_greater p q a b)),
                          (
                            two fn.Greater shape.Text shape.Text (λ p q a b i j. no (compared_spares is_greater p q a b)),
                            (
                              two fn.Greater shape.Date shape.Date (λ p q a b i j. no (compared_spares is_greater p q a b)),
                              (
                                two fn.AtLeast shape.Num shape.Num (λ p q a b i j. no (compared_spares (λ o. not (is_less o)) p q a b)),
                                (
                                  two fn.AtLeast shape.Text shape.Text (λ p q a b i j. no (compared_spares (λ o. not (is_less o)) p q a b)),
                                  (
                                    two fn.AtLeast shape.Date shape.Date (λ p q a b i j. no (compared_spares (λ o. not (is_less o)) p q a b)),
                                    (
                                      two fn.Plus shape.Num shape.Num (λ p q a b i j. num_case (λ w. Exact fn.Plus (p ∷ q ∷ []) (w ∷ b ∷ [])) a i (λ h. refl, λ h. refl) (λ x. num_case (λ w. Exact fn.Plus (p ∷ q ∷ []) (Num x ∷ w ∷ [])) b j (λ h. refl, λ h. refl) (λ y. no (numbers_spares p q x y (λ n. n.0 +ℤ n.1))))),
                                      (
                                        two fn.Minus shape.Num shape.Num (λ p q a b i j. num_case (λ w. Exact fn.Minus (p ∷ q ∷ []) (w ∷ b ∷ [])) a i (λ h. refl, λ h. refl) (λ x. num_case (λ w. Exact fn.Minus (p ∷ q ∷ []) (Num x ∷ w ∷ [])) b j (λ h. refl, λ h. refl) (λ y. no (numbers_spares p q x y (λ n. n.0 -ℤ n.1))))),
                                        (
                                          two fn.Times shape.Num shape.Num (λ p q a b i j. num_case (λ w. Exact fn.Times (p ∷ q ∷ []) (w ∷ b ∷ [])) a i (λ h. refl, λ h. refl) (λ x. num_case (λ w. Exact fn.Times (p ∷ q ∷ []) (Num x ∷ w ∷ [])) b j (λ h. refl, λ h. refl) (λ y. no (number_spares (x *ℤ y))))),
                                          (
                                            two fn.Divide shape.Num shape.Num (λ p q a b i j. num_case (λ w. Exact fn.Divide (p ∷ q ∷ []) (w ∷ b ∷ [])) a i (λ h. refl, λ h. refl) (λ x. num_case (λ w. Exact fn.Divide (p ∷ q ∷ []) (Num x ∷ w ∷ [])) b j (λ h. refl, λ h. refl) (λ y. no (divided_spares int_div x y)))),
                                            (
                                              two fn.Remainder shape.Num shape.Num (λ p q a b i j. num_case (λ w. Exact fn.Remainder (p ∷ q ∷ []) (w ∷ b ∷ [])) a i (λ h. refl, λ h. refl) (λ x. num_case (λ w. Exact fn.Remainder (p ∷ q ∷ []) (Num x ∷ w ∷ [])) b j (λ h. refl, λ h. refl) (λ y. no (divided_spares int_rem x y)))),
                                              (
                                                two fn.Minus shape.Date shape.Date (λ p q a b i j. date_case (λ w. Exact fn.Minus (p ∷ q ∷ []) (w ∷ b ∷ [])) a i (λ h. refl, λ h. refl) (λ x. date_case (λ w. Exact fn.Minus (p ∷ q ∷ []) (Date x ∷ w ∷ [])) b j (λ h. refl, λ h. refl) (λ y. no (number_spares (x -ℤ y))))),
                                                (
                                                  one fn.Minus shape.Num (λ p a i. num_case (λ w. Exact fn.Minus (p ∷ []) (w ∷ [])) a i (λ h. refl, λ h. refl) (λ x. no (number_spares (neg_ℤ x)))),
                                                  (
                                                    two fn.And shape.Truth shape.Truth (λ p q a b i j. truth_case (λ w. Exact fn.And (p ∷ q ∷ []) (w ∷ b ∷ [])) a i (λ h. refl, λ h. refl) (λ x. truth_case (λ w. Exact fn.And (p ∷ q ∷ []) (Truth x ∷ w ∷ [])) b j (λ h. refl, λ h. refl) (λ y. no (λ h. cc)))),
                                                    (
                                                      two fn.Or shape.Truth shape.Truth (λ p q a b i j. truth_case (λ w. Exact fn.Or (p ∷ q ∷ []) (w ∷ b ∷ [])) a i (λ h. refl, λ h. refl) (λ x. truth_case (λ w. Exact fn.Or (p ∷ q ∷ []) (Truth x ∷ w ∷ [])) b j (λ h. refl, λ h. refl) (λ y. no (λ h. cc)))),
                                                      (
                                                        one fn.Not shape.Truth (λ p a i. truth_case (λ w. Exact fn.Not (p ∷ []) (w ∷ [])) a i (λ h. refl, λ h. refl) (λ x. no (λ h. cc))),
                                                        (
                                                          one fn.IsNull shape.Num (λ p a i. no (λ h. cc)),
                                                          (
                                                            one fn.IsNull shape.Text (λ p a i. no (λ h. cc)),
                                                            (
                                                              one fn.IsNull shape.Date (λ p a i. no (λ h. cc)),
                                                              (
                                                                two fn.IfNull shape.Num shape.Num (λ p q a b i j. no (both_spares p q a b (λ x y. Ok (first_given x y)) (λ x y h. cc))),
                                                                (
                                                                  two fn.IfNull shape.Text shape.Text (λ p q a b i j. no (both_spares p q a b (λ x y. Ok (first_given x y)) (λ x y h. cc))),
                                                                  (
                                                                    two fn.IfNull shape.Date shape.Date (λ p q a b i j. no (both_spares p q a b (λ x y. Ok (first_given x y)) (λ x y h. cc))),
                                                                    (
                                                                      three fn.If shape.Truth shape.Num shape.Num (λ p q r a b c i j k. truth_case (λ w. Exact fn.If (p ∷ q ∷ r ∷ []) (w ∷ b ∷ c ∷ [])) a i (λ h. refl, λ h. refl) (λ x. no (chosen_spares x p q r b c))),
                                                                      (
                                                                        three fn.If shape.Truth shape.Text shape.Text (λ p q r a b c i j k. truth_case (λ w. Exact fn.If (p ∷ q ∷ r ∷ []) (w ∷ b ∷ c ∷ [])) a i (λ h. refl, λ h. refl) (λ x. no (chosen_spares x p q r b c))),
                                                                        (
                                                                          three fn.If shape.Truth shape.Date shape.Date (λ p q r a b c i j k. truth_case (λ w. Exact fn.If (p ∷ q ∷ r ∷ []) (w ∷ b ∷ c ∷ [])) a i (λ h. refl, λ h. refl) (λ x. no (chosen_spares x p q r b c))),
                                                                          (
                                                                            three fn.If shape.Truth shape.Truth shape.Truth (λ p q r a b c i j k. truth_case (λ w. Exact fn.If (p ∷ q ∷ r ∷ []) (w ∷ b ∷ c ∷ [])) a i (λ h. refl, λ h. refl) (λ x. no (chosen_spares x p q r b c))),
                                                                            (
                                                                              one fn.Abs shape.Num (λ p a i. num_case (λ w. Exact fn.Abs (p ∷ []) (w ∷ [])) a i (λ h. refl, λ h. refl) (λ x. no (number_spares (pos (unsigned_abs x))))),
                                                                              (
                                                                                one fn.Sign shape.Num (λ p a i. num_case (λ w. Exact fn.Sign (p ∷ []) (w ∷ [])) a i (λ h. refl, λ h. refl) (λ x. no (number_spares (int_signum x)))),
                                                                                (
                                                                                  two fn.Round shape.Num shape.Num (λ p q a b i j. num_case (λ w. Exact fn.Round (p ∷ q ∷ []) (w ∷ b ∷ [])) a i (λ h. refl, λ h. refl) (λ x. num_case (λ w. Exact fn.Round (p ∷ q ∷ []) (Num x ∷ w ∷ [])) b j (λ h. refl, λ h. refl) (λ y. no (number_spares (nearest_ℤ x (10 ^ (p - unsigned_abs y))))))),
                                                                                  (
                                                                                    two fn.Least shape.Num shape.Num (λ p q a b i j. num_case (λ w. Exact fn.Least (p ∷ q ∷ []) (w ∷ b ∷ [])) a i (λ h. refl, λ h. refl) (λ x. num_case (λ w. Exact fn.Least (p ∷ q ∷ []) (Num x ∷ w ∷ [])) b j (λ h. refl, λ h. refl) (λ y. no (numbers_spares p q x y (λ n. int_min n.0 n.1))))),
                                                                                    (
                                                                                      two fn.Greatest shape.Num shape.Num (λ p q a b i j. num_case (λ w. Exact fn.Greatest (p ∷ q ∷ []) (w ∷ b ∷ [])) a i (λ h. refl, λ h. refl) (λ x. num_case (λ w. Exact fn.Greatest (p ∷ q ∷ []) (Num x ∷ w ∷ [])) b j (λ h. refl, λ h. refl) (λ y. no (numbers_spares p q x y (λ n. int_max n.0 n.1))))),
                                                                                      (
                                                                                        one fn.Length shape.Text (λ p a i. text_case (λ w. Exact fn.Length (p ∷ []) (w ∷ [])) a i (λ h. refl, λ h. refl) (λ x. no (number_spares (pos (length x))))),
                                                                                        (
                                                                                          two fn.Concat shape.Text shape.Text (λ p q a b i j. text_case (λ w. Exact fn.Concat (p ∷ q ∷ []) (w ∷ b ∷ [])) a i (λ h. refl, λ h. refl) (λ x. text_case (λ w. Exact fn.Concat (p ∷ q ∷ []) (Text x ∷ w ∷ [])) b j (λ h. refl, λ h. refl) (λ y. no (text_spares (x ++ y))))),
                                                                                          (
                                                                                            three fn.Substr shape.Text shape.Num shape.Num (λ p q r a b c i j k. text_case (λ w. Exact fn.Substr (p ∷ q ∷ r ∷ []) (w ∷ b ∷ c ∷ [])) a i (λ h. refl, λ h. refl) (λ x. num_case (λ w. Exact fn.Substr (p ∷ q ∷ r ∷ []) (Text x ∷ w ∷ c ∷ [])) b j (λ h. refl, λ h. refl) (λ y. num_case (λ w. Exact fn.Substr (p ∷ q ∷ r ∷ []) (Text x ∷ Num y ∷ w ∷ [])) c k (λ h. refl, λ h. refl) (λ z. no (λ h. cc))))),
                                                                                            (
                                                                                              one fn.Trim shape.Text (λ p a i. text_case (λ w. Exact fn.Trim (p ∷ []) (w ∷ [])) a i (λ h. refl, λ h. refl) (λ x. no (λ h. cc))),
                                                                                              (
                                                                                                one fn.Text shape.Num (λ p a i. num_case (λ w. Exact fn.Text (p ∷ []) (w ∷ [])) a i (λ h. refl, λ h. refl) (λ x. no (λ h. cc))),
                                                                                                (
                                                                                                  one fn.Year shape.Date (λ p a i. date_case (λ w. Exact fn.Year (p ∷ []) (w ∷ [])) a i (λ h. refl, λ h. refl) (λ x. no (number_spares (pos (year_of x))))),
                                                                                                  (
                                                                                                    one fn.Month shape.Date (λ p a i. date_case (λ w. Exact fn.Month (p ∷ []) (w ∷ [])) a i (λ h. refl, λ h. refl) (λ x. no (number_spares (pos (month_of x))))),
                                                                                                    (
                                                                                                      one fn.Day shape.Date (λ p a i. date_case (λ w. Exact fn.Day (p ∷ []) (w ∷ [])) a i (λ h. refl, λ h. refl) (λ x. no (number_spares (pos (day_of x))))),
                                                                                                      (
                                                                                                        one fn.DayNumber shape.Date (λ p a i. date_case (λ w. Exact fn.DayNumber (p ∷ []) (w ∷ [])) a i (λ h. refl, λ h. refl) (λ x. no (number_spares x))),
                                                                                                        (
                                                                                                          two fn.AddDays shape.Date shape.Num (λ p q a b i j. date_case (λ w. Exact fn.AddDays (p ∷ q ∷ []) (w ∷ b ∷ [])) a i (λ h. refl, λ h. refl) (λ x. num_case (λ w. Exact fn.AddDays (p ∷ q ∷ []) (Date x ∷ w ∷ [])) b j (λ h. refl, λ h. refl) (λ y. no (date_spares (x +ℤ y))))),
                                                                                                          tt,
                                                                                                        ),
                                                                                                      ),
                                                                                                    ),
                                                                                                  ),
                                                                                                ),
                                                                                              ),
                                                                                            ),
                                                                                          ),
                                                                                        ),
                                                                                      ),
                                                                                    ),
                                                                                  ),
                                                                                ),
                                                                              ),
                                                                            ),
                                                                          ),
                                                                        ),
                                                                      ),
                                                                    ),
                                                                  ),
                                                                ),
                                                              ),
                                                            ),
                                                          ),
                                                        ),
                                                      ),
                                                    ),
                                                  ),
                                                ),
                                              ),
                                            ),
                                          ),
                                        ),
                                      ),
                                    ),
                                  ),
                                ),
                              ),
                            ),
                          ),
                        ),
                      ),
                    ),
                  ),
                ),
              ),
            ),
          ),
        ),
      ),
    ),
  ),
)

one_exact : (es : List Entry) (row : ℕ) (e : Entry) → EachExact es → slice_get es row ≡ Some e → Always e.name (shapes e)
one_exact [] row e each at = cc
one_exact (x ∷ es) zero e each at = let same : x ≡ e = cc in let P : Entry → Type 0 = λ d. Always d.name (shapes d) in subst P same each.0
one_exact (x ∷ es) (suc row) e each at = one_exact es row e each.1 at

pub nulls_exact : NullsAreExact
nulls_exact row e scales args at = one_exact rows row e each_exact at scales args
