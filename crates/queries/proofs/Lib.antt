mod Answers
mod Results
