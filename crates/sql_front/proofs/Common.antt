-- The names of other modules that the proofs here cite, passed on from one place. Declares nothing.
pub use Rattle.std.proofs.Common.{◌≡◌, ℕ, zero, suc, ◌+◌, ◌^◌, ◌<◌, ◌≤◌, Bool, true, false, not, ◌&&◌, ◌||◌, ◌⊎◌, List, [], ◌∷◌, ◌++◌, length, nat_lt, nat_le}
pub use Rattle.std.proofs.Common.{◌==◌, slice_get, slice_index_or, Some, None, Ok, Err, codes, Option, Result, find, sym, refl, ap, ◌∙◌, subst, inl, inr}
pub use Rattle.std.proofs.Common.{append_assoc, append-nil, arith}
pub use Rattle.std.proofs.lemmas.Bool.{cases_Bool, eq-eqb, eqb-true, leb-false, lt-leb, ne_eqb}
pub use Rattle.std.specs.Bool.{if◌then◌else◌, ⊤}
pub use Rattle.std.specs.List.{AllByRecursion, position_from}
pub use Rattle.std.specs.Option.{is_some, option_map, unwrap_or}
pub use Rattle.sqlite_ast.specs.Layer.{Layer, ShownLayer}
pub use Rattle.sqlite_ast.specs.declared.Core.{Core, out-Core}
pub use Rattle.sqlite_ast.specs.declared.Expr.{Expr, out-Expr}
pub use Rattle.sqlite_ast.specs.declared.Expr.TheOpen.{Expr-F, Shown-F}
pub use Rattle.sqlite_ast.specs.declared.Select.{Select, out-Select}
pub use Rattle.sqlite_ast.specs.declared.Shown.{out-Shown}
pub use Rattle.sqlite_ast.specs.declared.Source.{Source, out-Source}
pub use Rattle.sqlite_catalog.proofs.StepLemmas.{table_below}
pub use Rattle.sqlite_catalog.specs.Change.{KeepsRows, automatics, created, is_used, next_tree}
pub use Rattle.sqlite_draft.specs.Query.{query_of}
pub use Rattle.sqlite_draft.specs.declared.join.Step.TheVariants.{Inner}
pub use Rattle.sqlite_draft.specs.declared.query.Draft.{Draft}
pub use Rattle.sqlite_resolve.specs.Body.{found_name, is_column, outputs_from, shown_at}
pub use Rattle.sqlite_resolve.specs.Compile.{compiled, first, is_reserved, new_rows, small}
pub use Rattle.sqlite_resolve.specs.Expr.{applied, combine, count_rows, counted, is_identity, lower, lower_to, node_at, operator, passes}
pub use Rattle.sqlite_resolve.specs.Lowering.{Checked, Lowering, and_then, begin, chosen, fail, finish, fresh, get, last, lift, max_budget, pure, spend}
pub use Rattle.sqlite_resolve.specs.Lowering.{take_steps, ◌>>=◌, ◌>>◌}
pub use Rattle.sqlite_resolve.specs.Program.{Shown}
pub use Rattle.sqlite_resolve.specs.Scope.{Context, Name, column, found_or, is_hidden, is_meant, shown_again}
pub use Rattle.sqlite_resolve.specs.Select.{named, paging, value_of}
pub use Rattle.sqlite_resolve.specs.declared.compiled.Compiled.{Compiled}
pub use Rattle.sqlite_resolve.specs.declared.error.CompileError.TheVariants.{NoSuchColumn, TooBig, Unsupported}
pub use Rattle.sqlite_resolve.specs.declared.scope.Bound.{Bound}
pub use Rattle.sqlite_resolve.specs.declared.scope.Found.{Found}
pub use Rattle.sqlite_resolve.specs.declared.scope.Found.TheVariants.{Alias, Column, Rowid}
pub use Rattle.sqlite_resolve.specs.declared.scope.Level.{Level}
pub use Rattle.sqlite_resolve.specs.declared.scope.Output.{Output}
pub use Rattle.sqlite_resolve.specs.declared.state.State.{State}
pub use Rattle.sqlite_resolve.specs.declared.subquery.Purpose.TheVariants.{Exists}
pub use Rattle.sqlite_rules.specs.Lists.{Has}
pub use Rattle.sqlite_schema.specs.Names.{column_named, index_named, same_name, table_named, view_named}
pub use Rattle.sqlite_schema.specs.declared.schema.Index.{Index}
pub use Rattle.sqlite_schema.specs.declared.schema.Schema.{Schema}
pub use Rattle.sqlite_schema.specs.declared.schema.Table.{Table}
pub use Rattle.sqlite_sql.specs.Query.{Query, end, inner}
pub use Rattle.sqlite_sql.specs.Term.{Term, col, op2}
pub use Rattle.sqlite_syntax.specs.declared.statement.Parsed.{Parsed}
pub use Rattle.sqlite_typing.specs.Types.{accepts_after, accepts_program, are_tests, integer, is_count, row_classes}
pub use Rattle.sqlite_value.specs.declared.keys.Collation.{Collation}
pub use Rattle.sql_front.specs.Stands.{NoneHasForeignKey, Stands}
pub use Rattle.std.proofs.Math.Bool.{and-true}
