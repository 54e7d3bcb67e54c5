-- What the readers of answers return, as what the bytes are.
use Rattle.std.specs.Prelude.{Option, Some, None}
use Rattle.iss_http.specs.declared.answers.Answer.{Answer}
use Rattle.iss_http.specs.declared.answers.Answer.TheVariants as answer
use Rattle.iss_http.specs.declared.answers.Came.{Came}
use Rattle.iss_http.specs.declared.answers.Came.TheVariants as came
use Rattle.iss_http.specs.Answers.{AnswerReading, more, ended, garbled, whole}

-- an answer
abbrev pub reading_of : Answer → AnswerReading
reading_of (answer.Whole status body) = whole status body.items
reading_of answer.Garbled = garbled
reading_of answer.Ended = ended

-- an answer, or none yet
abbrev pub heard : Option Answer → AnswerReading
heard None = more
heard (Some a) = reading_of a

-- an answer over borrowed bytes, or none yet
abbrev pub came_as : Came → AnswerReading
came_as came.More = more
came_as came.Ended = ended
came_as came.Garbled = garbled
came_as (came.Whole status body) = whole status body.now
