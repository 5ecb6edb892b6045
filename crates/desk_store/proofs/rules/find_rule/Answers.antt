use Rattle.desk_store.proofs.Answering.{SaysRule, all_blamed, broken_rule, few_asks, finds_one, get_rule_is, judges_rule, refl, two_blamed, two_rules, unread}
use Rattle.desk_store.proofs.rules.find_rule.Goals as goal

pub returns-clause-reads : goal.returns-clause-reads
returns-clause-reads g c = finds_one get_rule_is (λ tree xs. refl) (judges_rule c.args.number c.args.group) _ {says = SaysRule} (λ row lies it is. is)
    (rw (c.params-to_sql.ensures, c.params-to_sql-2.ensures, c.get.ensures.value, c.in-Some.is) at c.in_ok-rows.ensures.asks) _
    (rw c.deref.ensures.value at c.read_at.ensures.ok)

pub returns-in_default-clause-blames : goal.returns-in_default-clause-blames
returns-in_default-clause-blames g c = two_blamed get_rule_is (λ tree xs. refl) (judges_rule c.args.number c.args.group)
    (rw (c.params-to_sql.ensures, c.params-to_sql-2.ensures, c.get.ensures.value, c.in_default.is) at c.in_ok-rows.ensures.asks)
    (λ reading two given. unread reading (two_rules c.args.number c.args.group two) given)

pub returns-clause-blames : goal.returns-clause-blames
returns-clause-blames g c = all_blamed get_rule_is _ (few_asks (rw c.in-Some.is at c.in_ok-rows.ensures.asks)) _
    (rw c.deref.ensures.value at c.read_at.ensures.err) (λ reading row among is given. unread reading (broken_rule row among is) given)
