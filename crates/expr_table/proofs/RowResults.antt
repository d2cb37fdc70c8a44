-- Each row gives what fits its result.
use Rattle.std.proofs.Common.{◌≡◌, List, [], ◌∷◌, ℕ, zero, suc, Some, Ok, slice_get, unsigned_abs, length, subst}
use Rattle.std.specs.Prelude.{◌+ℤ◌, ◌*ℤ◌, pos, ◌&&◌, ◌||◌, not, int_div, int_rem}
use Rattle.std.specs.Int.{int_min, int_max, int_signum}
use Rattle.ds_value.specs.Calendar.{year_of, month_of, day_of}
use Rattle.expr_table.specs.declared.entry.Shape.TheVariants as shape
use Rattle.expr_table.specs.declared.entry.Entry.{Entry}
use Rattle.expr_table.specs.declared.arg.Arg.{Arg}
use Rattle.expr_table.specs.Calls.{HaveShapes, AreInRange, ResultsFit}
use Rattle.expr_table.specs.Meaning.{value_of, order_of, is_equal, is_less, is_greater, numbers, units, one_number, one_text, one_date, one_truth, two_truths, divided, without_spaces}
use Rattle.expr_table.specs.TableRows.{rows, shapes}
use Rattle.expr_table.proofs.Results.{Is, after, made_number, made_truth, made_text, difference_is, divided_is, null_test_is, if_null_is, choice_is, rounded_is, joined_is, part_is, number_text_is, later_is}

abbrev pub Fits : Entry → Type 0
Fits e = (scales : List ℕ) (args : List Arg) (v : Arg) → HaveShapes (shapes e) args → AreInRange args → value_of e.name scales args ≡ Ok v → Is e.result v

abbrev pub EachFits : List Entry → Type 0
EachFits [] = Unit {0}
EachFits (e ∷ es) = Fits e × EachFits es

-- each row, by the rules of its name
each_fits : EachFits rows
each_fits = (
  (λ scales args v have range h. made_truth (order_of scales args) is_equal v h),
  (
    (λ scales args v have range h. made_truth (order_of scales args) is_equal v h),
    (
      (λ scales args v have range h. made_truth (order_of scales args) is_equal v h),
      (
        (λ scales args v have range h. made_truth (order_of scales args) (λ o. not (is_equal o)) v h),
        (
          (λ scales args v have range h. made_truth (order_of scales args) (λ o. not (is_equal o)) v h),
          (
            (λ scales args v have range h. made_truth (order_of scales args) (λ o. not (is_equal o)) v h),
            (
              (λ scales args v have range h. made_truth (order_of scales args) is_less v h),
              (
                (λ scales args v have range h. made_truth (order_of scales args) is_less v h),
                (
                  (λ scales args v have range h. made_truth (order_of scales args) is_less v h),
                  (
                    (λ scales args v have range h. made_truth (order_of scales args) (λ o. not (is_greater o)) v h),
                    (
                      (λ scales args v have range h. made_truth (order_of scales args) (λ o. not (is_greater o)) v h),
                      (
                        (λ scales args v have range h. made_truth (order_of scales args) (λ o. not (is_greater o)) v h),
                        (
                          (λ scales args v have range h. made_truth (order_of scales args) is_greater v h),
                          (
                            (λ scales args v have range h. made_truth (order_of scales args) is_greater v h),
                            (
                              (λ scales args v have range h. made_truth (order_of scales args) is_greater v h),
                              (
                                (λ scales args v have range h. made_truth (order_of scales args) (λ o. not (is_less o)) v h),
                                (
                                  (λ scales args v have range h. made_truth (order_of scales args) (λ o. not (is_less o)) v h),
                                  (
                                    (λ scales args v have range h. made_truth (order_of scales args) (λ o. not (is_less o)) v h),
                                    (
                                      (λ scales args v have range h. made_number (numbers scales args) (λ p. p.0 +ℤ p.1) v h),
                                      (
                                        (λ scales args v have range h. difference_is scales args v h),
                                        (
                                          (λ scales args v have range h. made_number (units args) (λ p. p.0 *ℤ p.1) v h),
                                          (
                                            (λ scales args v have range h. after (units args) (λ p. divided int_div p.0 p.1) (Is shape.Num) (λ p at w e. divided_is int_div p.0 p.1 w e) v h),
                                            (
                                              (λ scales args v have range h. after (units args) (λ p. divided int_rem p.0 p.1) (Is shape.Num) (λ p at w e. divided_is int_rem p.0 p.1 w e) v h),
                                              (
                                                (λ scales args v have range h. difference_is scales args v h),
                                                (
                                                  (λ scales args v have range h. difference_is scales args v h),
                                                  (
                                                    (λ scales args v have range h. made_truth (two_truths args) (λ p. p.0 && p.1) v h),
                                                    (
                                                      (λ scales args v have range h. made_truth (two_truths args) (λ p. p.0 || p.1) v h),
                                                      (
                                                        (λ scales args v have range h. made_truth (one_truth args) (λ a. not a) v h),
                                                        (
                                                          (λ scales args v have range h. null_test_is args v h),
                                                          (
                                                            (λ scales args v have range h. null_test_is args v h),
                                                            (
                                                              (λ scales args v have range h. null_test_is args v h),
                                                              (
                                                                (λ scales args v have range h. if_null_is shape.Num scales args v have range h),
                                                                (
                                                                  (λ scales args v have range h. if_null_is shape.Text scales args v have range h),
                                                                  (
                                                                    (λ scales args v have range h. if_null_is shape.Date scales args v have range h),
                                                                    (
                                                                      (λ scales args v have range h. choice_is shape.Num scales args v have range h),
                                                                      (
                                                                        (λ scales args v have range h. choice_is shape.Text scales args v have range h),
                                                                        (
                                                                          (λ scales args v have range h. choice_is shape.Date scales args v have range h),
                                                                          (
                                                                            (λ scales args v have range h. choice_is shape.Truth scales args v have range h),
                                                                            (
                                                                              (λ scales args v have range h. made_number (one_number args) (λ z. pos (unsigned_abs z)) v h),
                                                                              (
                                                                                (λ scales args v have range h. made_number (one_number args) (λ z. int_signum z) v h),
                                                                                (
                                                                                  (λ scales args v have range h. rounded_is scales args v h),
                                                                                  (
                                                                                    (λ scales args v have range h. made_number (numbers scales args) (λ p. int_min p.0 p.1) v h),
                                                                                    (
                                                                                      (λ scales args v have range h. made_number (numbers scales args) (λ p. int_max p.0 p.1) v h),
                                                                                      (
                                                                                        (λ scales args v have range h. made_number (one_text args) (λ bytes. pos (length bytes)) v h),
                                                                                        (
                                                                                          (λ scales args v have range h. joined_is args v h),
                                                                                          (
                                                                                            (λ scales args v have range h. part_is args v h),
                                                                                            (
                                                                                              (λ scales args v have range h. made_text (one_text args) without_spaces v h),
                                                                                              (
                                                                                                (λ scales args v have range h. number_text_is scales args v h),
                                                                                                (
                                                                                                  (λ scales args v have range h. made_number (one_date args) (λ day. pos (year_of day)) v h),
                                                                                                  (
                                                                                                    (λ scales args v have range h. made_number (one_date args) (λ day. pos (month_of day)) v h),
                                                                                                    (
                                                                                                      (λ scales args v have range h. made_number (one_date args) (λ day. pos (day_of day)) v h),
                                                                                                      (
                                                                                                        (λ scales args v have range h. made_number (one_date args) (λ day. day) v h),
                                                                                                        (
                                                                                                          (λ scales args v have range h. later_is args v h),
                                                                                                          tt,
                                                                                                        ),
                                                                                                      ),
                                                                                                    ),
                                                                                                  ),
                                                                                                ),
                                                                                              ),
                                                                                            ),
                                                                                          ),
                                                                                        ),
                                                                                      ),
                                                                                    ),
                                                                                  ),
                                                                                ),
                                                                              ),
                                                                            ),
                                                                          ),
                                                                        ),
                                                                      ),
                                                                    ),
                                                                  ),
                                                                ),
                                                              ),
                                                            ),
                                                          ),
                                                        ),
                                                      ),
                                                    ),
                                                  ),
                                                ),
                                              ),
                                            ),
                                          ),
                                        ),
                                      ),
                                    ),
                                  ),
                                ),
                              ),
                            ),
                          ),
                        ),
                      ),
                    ),
                  ),
                ),
              ),
            ),
          ),
        ),
      ),
    ),
  ),
)

one_fits : (es : List Entry) (row : ℕ) (e : Entry) → EachFits es → slice_get es row ≡ Some e → Fits e
one_fits [] row e each at = cc
one_fits (x ∷ es) zero e each at = let same : x ≡ e = cc in let P : Entry → Type 0 = Fits in subst P same each.0
one_fits (x ∷ es) (suc row) e each at = one_fits es row e each.1 at

pub results_fit : ResultsFit
results_fit row e scales args v at = one_fits rows row e each_fits at scales args v
