mod Walks
mod Standing
mod Still
mod Odd
mod Made
mod Answers
mod Written
mod Law
