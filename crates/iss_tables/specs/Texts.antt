-- The texts of the statements.
use Rattle.std.specs.Prelude.{ℕ, List, ◌++◌, codes}

-- makes the table of the head
abbrev pub make_head : List ℕ
make_head =
    codes "CREATE TABLE IF NOT EXISTS head (id INTEGER PRIMARY KEY, instance INTEGER NOT NULL, "
    ++ codes "records INTEGER NOT NULL, posts INTEGER NOT NULL) STRICT"

-- makes the table of the postings
abbrev pub make_post : List ℕ
make_post =
    codes "CREATE TABLE IF NOT EXISTS post (seq INTEGER PRIMARY KEY, record INTEGER NOT NULL, at INTEGER NOT NULL, "
    ++ codes "from_kind INTEGER NOT NULL, from_user TEXT, to_kind INTEGER NOT NULL, to_user TEXT, currency INTEGER NOT NULL, "
    ++ codes "amount INTEGER NOT NULL, txn TEXT) STRICT"

-- sets the head
abbrev pub set_head : List ℕ
set_head = codes "INSERT OR REPLACE INTO head VALUES (1, ?1, ?2, ?3)"

-- adds a posting
abbrev pub add_post : List ℕ
add_post = codes "INSERT INTO post VALUES (?1, ?2, ?3, ?4, ?5, ?6, ?7, ?8, ?9, ?10)"

-- reads the head
abbrev pub get_head : List ℕ
get_head = codes "SELECT instance, records, posts FROM head WHERE id = 1"

-- reads the postings of a user in a currency, by number
abbrev pub get_posts : List ℕ
get_posts =
    codes "SELECT seq, record, at, from_kind, from_user, to_kind, to_user, currency, amount, txn FROM post "
    ++ codes "WHERE currency = ?2 AND (from_user = ?1 OR to_user = ?1) ORDER BY seq"

-- reads the numbers of postings above one
abbrev pub get_above : List ℕ
get_above = codes "SELECT seq FROM post WHERE seq > ?1"
