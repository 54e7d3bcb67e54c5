-- What has to be opened for texts to be read and written by computing.
pub use Rattle.std.specs.Fmt.{digits}
pub use Rattle.std.specs.Str.{is_utf8, chars}
pub use lib.Utf8.{encode}
pub use Rattle.json.specs.Json.{items, members, value}
pub use Rattle.json.specs.Lex.{lex, punctuate}
pub use Rattle.json.specs.Text.{code_unit, short_escape, content}
pub use Rattle.json.specs.Word.{after_number, word}
pub use Rattle.serde_json.specs.Read.{number_of}
pub use Rattle.uuid.specs.Text.{by_index}
pub use Rattle.httparse.specs.Grammar.{is_token_byte, trim_ows}
