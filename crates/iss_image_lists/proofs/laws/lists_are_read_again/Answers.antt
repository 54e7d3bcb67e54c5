use Rattle.iss_image_lists.proofs.SpelledSo.{field_of, spelled_so}
use Rattle.iss_image_lists.proofs.TxnFields.{txns_field, sums_field}
use Rattle.iss_image_lists.proofs.BalanceFields.{balances_field}
use Rattle.iss_image_lists.proofs.CounterFields.{counters_field}
use Rattle.iss_image_lists.proofs.NoticeFields.{notices_field}
use Rattle.iss_image_lists.proofs.laws.lists_are_read_again.Goals as goal

pub returns-clause-txns : goal.returns-clause-txns
returns-clause-txns c = λ take_name name_bytes is_name name. spelled_so (txns_field (field_of name))

pub returns-clause-balances : goal.returns-clause-balances
returns-clause-balances c = λ take_name name_bytes is_name name. spelled_so (balances_field (field_of name))

pub returns-clause-counters : goal.returns-clause-counters
returns-clause-counters c = λ take_name name_bytes is_name window_of name. spelled_so (counters_field (field_of name) window_of)

pub returns-clause-sums : goal.returns-clause-sums
returns-clause-sums c = λ take_name name_bytes is_name name. spelled_so (sums_field (field_of name))

pub returns-clause-notices : goal.returns-clause-notices
returns-clause-notices c = λ take_name name_bytes is_name holder_of name. spelled_so (notices_field (field_of name) holder_of)
