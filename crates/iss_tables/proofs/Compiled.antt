-- What the statements compile to.
use Rattle.std.proofs.Common.{◌≡◌, pos, List, [], ◌∷◌, codes, false, Ok, refl}
use Rattle.sqlite.specs.declared.types.Value.TheVariants.{Null, Int}
use Rattle.sqlite.specs.Term.{Term, lit, col}
use Rattle.sqlite.specs.Source.TheVariants.{Values}
use Rattle.sqlite.specs.Command.TheVariants.{Insert, InsertOr, Select, CreateTable, Nothing}
use Rattle.sqlite_schema.specs.declared.command.Conflict.TheVariants.{Replace}
use Rattle.sqlite.specs.Compile.{table_defined_by}
use Rattle.sqlite_tied.specs.Compute.{everything}
use Rattle.sqlite.specs.Listing.{understood, reads_listing}
use Rattle.std.proofs.Common.{length}
use Rattle.sqlite.proofs.Callers.{IsPlain, command_of, statement_of}
use Rattle.iss_tables.proofs.Failing.{tail_of, names_of, shows_of}
use Rattle.iss_tables.specs.Texts.{make_head, make_post, set_head, add_post, get_head, get_posts, get_above}
use Rattle.iss_tables.specs.Queries.{head_query, posts_query, above_query}
use Rattle.iss_tables.specs.Tables.{head_table, post_table_at, no_schema, head_schema, archive_schema}

pub head_made : table_defined_by make_head ≡ Ok head_table
unfolding everything
head_made = refl

pub post_made : table_defined_by make_post ≡ Ok (post_table_at 0)
unfolding everything
post_made = refl

pub head_creates : command_of (understood no_schema make_head) ≡ CreateTable
unfolding understood everything
head_creates = refl

pub head_stands_alone : command_of (understood head_schema make_head) ≡ Nothing
unfolding understood everything
head_stands_alone = refl

pub head_stands : command_of (understood archive_schema make_head) ≡ Nothing
unfolding understood everything
head_stands = refl

pub post_stands : command_of (understood archive_schema make_post) ≡ Nothing
unfolding understood everything
post_stands = refl

pub post_creates : command_of (understood head_schema make_post) ≡ CreateTable
unfolding understood everything
post_creates = refl

-- what a new post's columns are: its key is the rowid
abbrev pub post_terms : List Term
post_terms = col 0 0 ∷ lit Null ∷ col 0 1 ∷ col 0 2 ∷ col 0 3 ∷ col 0 4 ∷ col 0 5 ∷ col 0 6 ∷ col 0 7 ∷ col 0 8 ∷ col 0 9 ∷ []

pub add_is : command_of (understood archive_schema add_post) ≡ Insert 1 (Values post_terms 11)
unfolding understood everything
add_is = refl

abbrev pub head_terms : List Term
head_terms = lit (Int (pos 1)) ∷ lit Null ∷ col 0 0 ∷ col 0 1 ∷ col 0 2 ∷ []

pub set_is : command_of (understood archive_schema set_head) ≡ InsertOr 0 Replace (Values head_terms 5) []
unfolding understood everything
set_is = refl

pub get_is : command_of (understood archive_schema get_head) ≡ Select (record { lets = []; body = head_query }) (codes "instance" ∷ codes "records" ∷ codes "posts" ∷ [])
unfolding understood everything
get_is = refl

pub posts_is : command_of (understood archive_schema get_posts)
    ≡ Select (record { lets = []; body = posts_query })
    (codes "seq" ∷ codes "record" ∷ codes "at" ∷ codes "from_kind" ∷ codes "from_user" ∷ codes "to_kind" ∷ codes "to_user" ∷ codes "currency" ∷ codes "amount" ∷ codes "txn" ∷ [])
unfolding understood everything
posts_is = refl

pub above_is : command_of (understood archive_schema get_above) ≡ Select (record { lets = []; body = above_query }) (codes "seq" ∷ [])
unfolding understood everything
above_is = refl

pub above_plain : IsPlain (understood archive_schema get_above) × (reads_listing archive_schema get_above ≡ false)
unfolding understood everything
above_plain = ((refl, refl), refl)

pub unlisted : (reads_listing archive_schema get_head ≡ false) × (reads_listing archive_schema get_posts ≡ false)
unfolding understood everything
unlisted = (refl, refl)

pub plain : IsPlain (understood no_schema make_head) × IsPlain (understood head_schema make_post) × IsPlain (understood archive_schema make_head) × IsPlain (understood archive_schema make_post)
    × IsPlain (understood archive_schema add_post) × IsPlain (understood archive_schema set_head) × IsPlain (understood archive_schema get_head) × IsPlain (understood archive_schema get_posts)
unfolding understood everything
plain = ((refl, refl), (refl, refl), (refl, refl), (refl, refl), (refl, refl), (refl, refl), (refl, refl), (refl, refl))

pub texts_are : (statement_of make_head (understood no_schema make_head) ≡ make_head) × (statement_of make_post (understood head_schema make_post) ≡ make_post)
unfolding understood everything
texts_are = (refl, refl)

-- each question is one statement, with as many parameters as it is given
pub asks_whole : (tail_of (understood archive_schema get_head) ≡ length get_head) × (names_of (understood archive_schema get_head) ≡ 0)
    × (tail_of (understood archive_schema get_posts) ≡ length get_posts) × (names_of (understood archive_schema get_posts) ≡ 2)
    × (tail_of (understood archive_schema get_above) ≡ length get_above) × (names_of (understood archive_schema get_above) ≡ 1)
unfolding understood everything
asks_whole = (refl, refl, refl, refl, refl, refl)

-- so is each write, which shows no rows
pub writes_whole : (tail_of (understood archive_schema add_post) ≡ length add_post) × (names_of (understood archive_schema add_post) ≡ 10) × (shows_of (understood archive_schema add_post) ≡ false)
    × (tail_of (understood archive_schema set_head) ≡ length set_head) × (names_of (understood archive_schema set_head) ≡ 3) × (shows_of (understood archive_schema set_head) ≡ false)
unfolding understood everything
writes_whole = (refl, refl, refl, refl, refl, refl)

-- so is each text that makes a table, over each schema that can become ours
pub head_whole : (tail_of (understood no_schema make_head) ≡ length make_head) × (names_of (understood no_schema make_head) ≡ 0) × (shows_of (understood no_schema make_head) ≡ false)
    × (tail_of (understood head_schema make_head) ≡ length make_head) × (names_of (understood head_schema make_head) ≡ 0) × (shows_of (understood head_schema make_head) ≡ false)
    × (tail_of (understood archive_schema make_head) ≡ length make_head) × (names_of (understood archive_schema make_head) ≡ 0) × (shows_of (understood archive_schema make_head) ≡ false)
    × IsPlain (understood head_schema make_head)
unfolding understood everything
head_whole = (refl, refl, refl, refl, refl, refl, refl, refl, refl, (refl, refl))

pub post_whole : (tail_of (understood head_schema make_post) ≡ length make_post) × (names_of (understood head_schema make_post) ≡ 0) × (shows_of (understood head_schema make_post) ≡ false)
    × (tail_of (understood archive_schema make_post) ≡ length make_post) × (names_of (understood archive_schema make_post) ≡ 0) × (shows_of (understood archive_schema make_post) ≡ false)
unfolding understood everything
post_whole = (refl, refl, refl, refl, refl, refl)
