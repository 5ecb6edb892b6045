-- The names of other modules that the proofs here cite, passed on from one place. Declares nothing.
pub use Rattle.std.proofs.Common.{◌≡◌, ℕ, zero, suc, ◌+◌, ◌-◌, ◌<◌, ◌≤◌, Bool, true, false, cond, not, ◌&&◌, ◌||◌, ltb, ◌⊎◌, List, [], ◌∷◌, ◌++◌, map, length}
pub use Rattle.std.proofs.Common.{get_or, take, drop, nat_eq, nat_lt, ◌==◌, slice_get, Some, None, Ok, Err, Option, Result, option_map, bytes_eq, sym, refl}
pub use Rattle.std.proofs.Common.{ap, ◌∙◌, subst, inl, inr, append-nil, arith}
pub use Rattle.std.proofs.lemmas.Bool.{eqb-true, false≢true, lt-ltb, ltb-true}
pub use Rattle.std.proofs.lemmas.Bool.Decides.{nat_tests}
pub use Rattle.std.specs.List.{list_all}
pub use Rattle.matchit.specs.Rows.{RowsOf, comes_before}
pub use Rattle.matchit.specs.Seek.{better, cuts, first, has_slash, longest_from, or_else, own, param_step, segment, step, with_suffix}
pub use Rattle.request_target.specs.Routes.{is_parameter, route_in, segments, stands_for}
pub use Rattle.request_target.specs.Rows.{added, are_new, are_routes, is_new, is_part, part_tokens, rows_with, tokens}
pub use Rattle.request_target.specs.Tokens.{all_apart, all_plain, apart, apart_from, is_plain, opens}
pub use Rattle.std.specs.Cmp.Lexicographic.{pointwise}
