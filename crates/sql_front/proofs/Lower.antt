-- A plain expression is lowered alike under two contexts that find the same columns.
use Rattle.sql_front.proofs.Common.{◌≡◌, refl, ℕ, zero, suc, false, Option, ⊤, Term, op2, Collation, Expr, out-Expr, Select, Layer, Expr-F, Exists, operator}
use Rattle.sql_front.proofs.Common.{applied, node_at, is_identity, count_rows, counted, Name, Context, column, Lowering, ◌>>=◌, ◌>>◌, pure, last, spend, begin}
use Rattle.sql_front.proofs.Common.{finish, chosen, combine, passes, arith}
use Rattle.sqlite_sql.specs.declared.ops.BinaryOp.{BinaryOp}
use Rattle.sqlite_sql.specs.declared.ops.BinaryOp.TheVariants as by
use Rattle.sqlite_ast.specs.declared.Binary.{Binary}
use Rattle.sqlite_resolve.specs.Expr.{both, operation, between, bounded, tests_truth, tests_alias, wanted_truth, star, lower_to, node, opened}
use Rattle.sqlite_sql.specs.declared.ops.CompareOp.{CompareOp}
use Rattle.sqlite_resolve.specs.declared.state.Carried.{Carried}
use Rattle.sqlite_resolve.specs.Compare.{compared, affinity_of, of_column, converted}

pub record Same (a b : Context) : Type 0 where
  pub columns : (table : Option Name) (name : Name) → column a table name ≡ column b table name
  pub affinities : (slot at : ℕ) → of_column a slot at ≡ of_column b slot at
  pub aggregates : a.may_aggregate ≡ b.may_aggregate

-- the operators that are neither IS, IS NOT nor ||
abbrev pub IsSimple : Binary → Type 0
IsSimple op = (is_identity op ≡ false) × ((cx : Context) (how : Collation) (x y : Term) → combine cx op how x y ≡ applied cx (operator how op) x y)

-- literals, parameters, columns, count(*), simple operators, BETWEEN, and EXISTS of some queries
abbrev pub PlainLayer : (Select → Type 0) → (Expr → Type 0) → Layer → Type 0
PlainLayer Q P Expr-F.Null = ⊤
PlainLayer Q P (Expr-F.Integer text) = ⊤
PlainLayer Q P (Expr-F.Text text) = ⊤
PlainLayer Q P (Expr-F.Parameter k) = ⊤
PlainLayer Q P (Expr-F.Column table name) = ⊤
PlainLayer Q P (Expr-F.CallStar name) = ⊤
PlainLayer Q P (Expr-F.Binary op x y) = IsSimple op × P x × P y
PlainLayer Q P (Expr-F.Between x low high) = P x × P low × P high
PlainLayer Q P (Expr-F.Exists query) = Q query
PlainLayer Q P _ = ⊥

-- where EXISTS holds these queries alone, each at a depth
abbrev pub IsPlainBut : (ℕ → Select → Type 0) → ℕ → Expr → Type 0
IsPlainBut nested zero e = ⊤
IsPlainBut nested (suc n) e = PlainLayer (nested n) (IsPlainBut nested n) (out-Expr e)

abbrev pub IsPlain : ℕ → Expr → Type 0
IsPlain = IsPlainBut (λ n query. ⊥)

module _ (a b : Context) (same : Same a b) where
  affinity_same : (t : Term) → affinity_of a t ≡ affinity_of b t
  unfolding affinity_of
  affinity_same t = grind arith

  compared_same : (op : BinaryOp) (x y : Term) → compared a op x y ≡ compared b op x y
  unfolding compared
  compared_same op x y = λ i. op2 op (converted (affinity_same x i) (affinity_same y i) x) (converted (affinity_same y i) (affinity_same x i) y)

  abbrev two_sides : (Context → Expr → Lowering Term) → Context → Binary → Expr → Expr → Lowering Term
  two_sides low cx op x y = low cx x >>= (λ t. last >>= (λ p. low cx y >>= (λ u. last >>= (λ q. applied cx (operator (chosen p q) op) t u))))

  is_two_sides : (low : Context → Expr → Lowering Term) (cx : Context) (op : Binary) (x y : Expr) → IsSimple op → operation low cx op x y
      ≡ two_sides low cx op x y
  unfolding operation both wanted_truth tests_truth tests_alias
  is_two_sides low cx op x y simple = grind arith

  bounded_same : (low : Context → Expr → Lowering Term) (op : CompareOp) (x : Term) (p : Carried) (e : Expr) → low a e ≡ low b e → bounded low a op x p e
      ≡ bounded low b op x p e
  unfolding bounded
  bounded_same low op x p e h = λ i. h i >>= (λ t. last >>= (λ q. pure (compared_same (by.Compare op (chosen p q)) x t i)))

  layer_same : (low : Context → Expr → Lowering Term) (Q : Select → Type 0) (P : Expr → Type 0)
      → ((query : Select) → Q query → counted low a Exists query ≡ counted low b Exists query) → ((e : Expr) → P e → low a e ≡ low b e)
      → (l : Layer) → PlainLayer Q P l → node_at low a l ≡ node_at low b l
  unfolding between star
  layer_same low Q P nested below Expr-F.Null h = refl
  layer_same low Q P nested below (Expr-F.Integer text) h = refl
  layer_same low Q P nested below (Expr-F.Text text) h = refl
  layer_same low Q P nested below (Expr-F.Parameter k) h = refl
  layer_same low Q P nested below (Expr-F.Column table name) h = same.columns table name
  layer_same low Q P nested below (Expr-F.CallStar name) h = grind (arith, count_rows)
  layer_same low Q P nested below (Expr-F.Binary op x y) h = grind (arith, is_two_sides, compared_same, operator)
  layer_same low Q P nested below (Expr-F.Between x lo hi) h = grind (arith, bounded_same, op2)
  layer_same low Q P nested below (Expr-F.Exists query) h = nested query h
  layer_same low Q P nested below _ h = absurd h

  -- whatever the schemas are, and wherever the tables stand in them
  pub lower_same_but : (E : ℕ → Select → Type 0)
      → ((n : ℕ) (query : Select) → E n query → counted (lower_to n) a Exists query ≡ counted (lower_to n) b Exists query) → (n : ℕ) (e : Expr)
      → IsPlainBut E n e → lower_to n a e ≡ lower_to n b e
  unfolding lower_to node opened
  lower_same_but E nested zero e h = refl
  lower_same_but E nested (suc n) e h =
      let inner = layer_same (lower_to n) (E n) (IsPlainBut E n) (nested n) (lower_same_but E nested n) (out-Expr e) h in
      λ i. spend 1 >> (begin >>= (λ outer. inner i >>= (λ t. finish outer (passes e) >> pure t)))

  pub lower_same : (n : ℕ) (e : Expr) → IsPlain n e → lower_to n a e ≡ lower_to n b e
  lower_same = lower_same_but (λ n query. ⊥) (λ n query h. absurd h)
